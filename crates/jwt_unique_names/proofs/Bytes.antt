-- The lexer, a byte at a time.
use Rattle.std.proofs.Common.{◌≡◌, ◌≢◌, ℕ, suc, ◌+◌, ◌-◌, ◌<◌, ◌≤◌, ◌==◌, ◌||◌, List, [], ◌∷◌, length, get_or, take, drop, Bool}
use Rattle.std.proofs.Common.{true, false, cond, refl, sym, ap, ◌∙◌, subst, arith}
use Rattle.std.proofs.lemmas.Bool.{true≢false, false≢true, ne_eqb}
use Rattle.std.proofs.lemmas.List.{take_all}
use Rattle.json.specs.Token.{begin_object, end_object, begin_array, end_array}
use Rattle.json.specs.Lex.{Lexeme, token, comma, colon, Class, quote, backslash, operator, space, other, operator_lexeme, Mode}
use Rattle.json.specs.Lex.{between, in_word, in_string, in_escape, lex_byte, lex}
use Rattle.json.specs.Word.{is_operator, is_space}
use Rattle.jwt_unique_names.specs.private_clauses.Counts.{colons}

-- what a pattern `[byte, tail @ ..]` leaves
abbrev pub tail : List ℕ → List ℕ
tail s = take (length s - 1) (drop 1 s)

tail_of : (x : ℕ) (xs : List ℕ) → tail (x ∷ xs) ≡ xs
tail_of x xs = take_all _ xs (omega arith)

pub length-tail : (s : List ℕ) → 1 ≤ length s → length (tail s) + 1 ≡ length s
length-tail [] some = absurd (omega arith)
length-tail (x ∷ xs) some = omega (arith, ap length (tail_of x xs))

pub lex_none : (m n : Mode) (s : List ℕ) → length s < 1 → lex m s ≡ lex n s
unfolding lex
lex_none m n [] none = refl
lex_none m n (x ∷ xs) none = absurd (omega arith)

pub colons_none : (s : List ℕ) → length s < 1 → colons (lex between s) ≡ 0
unfolding lex
colons_none [] none = refl
colons_none (x ∷ xs) none = absurd (omega arith)

-- the class of a byte, by its tests
abbrev class_by : Bool → Bool → Bool → Bool → Class
class_by q b o s = cond q quote (cond b backslash (cond o operator (cond s space other)))

-- ---- in a string

pub string_ends : (s : List ℕ) → 1 ≤ length s → get_or s 0 0 ≡ 34 → lex in_string s ≡ lex between (tail s)
unfolding lex
string_ends [] some e = absurd (omega arith)
string_ends (x ∷ xs) some e = ap (λ y. lex in_string (y ∷ xs)) e ∙ ap (lex between) (sym (tail_of x xs))

escaped : (xs : List ℕ) → lex in_escape xs ≡ lex in_string (drop 1 xs)
unfolding lex
escaped [] = refl
escaped (x ∷ xs) = refl

pub string_escapes : (s : List ℕ) → 1 ≤ length s → get_or s 0 0 ≡ 92 → lex in_string s ≡ lex in_string (drop 1 (tail s))
unfolding lex
string_escapes [] some e = absurd (omega arith)
string_escapes (x ∷ xs) some e =
    ap (λ y. lex in_string (y ∷ xs)) e ∙ escaped xs ∙ ap (λ t. lex in_string (drop 1 t)) (sym (tail_of x xs))

inside : (q b o s : Bool) (x : ℕ) (xs : List ℕ) (k : Mode → List Lexeme) → q ≡ false → b ≡ false
    → lex_byte in_string (class_by q b o s) x xs k ≡ k in_string
inside true b o s x xs k e f = absurd (true≢false e)
inside false true o s x xs k e f = absurd (true≢false f)
inside false false true s x xs k e f = refl
inside false false false true x xs k e f = refl
inside false false false false x xs k e f = refl

pub string_goes_on : (s : List ℕ) → 1 ≤ length s → get_or s 0 0 ≢ 34 → get_or s 0 0 ≢ 92
    → lex in_string s ≡ lex in_string (tail s)
unfolding lex
string_goes_on [] some e f = absurd (omega arith)
string_goes_on (x ∷ xs) some e f =
    inside (x == 34) (x == 92) (is_operator x) (is_space x) x xs (λ n. lex n xs) (ne_eqb x 34 e) (ne_eqb x 92 f) ∙ ap (lex in_string) (sym (tail_of x xs))

-- ---- in a word

-- a byte that ends a word is none of the others
no_end : (x n : ℕ) → (is_operator x || is_space x) ≡ true → (is_operator n || is_space n) ≡ false → (x == n) ≡ false
no_end x n h k = ne_eqb x n (λ e. true≢false (sym h ∙ ap (λ y. is_operator y || is_space y) e ∙ k))

ended : (q b o s : Bool) (x : ℕ) (xs : List ℕ) (k : Mode → List Lexeme) → q ≡ false → b ≡ false → (o || s) ≡ true
    → lex_byte in_word (class_by q b o s) x xs k ≡ lex_byte between (class_by q b o s) x xs k
ended true b o s x xs k e f h = absurd (true≢false e)
ended false true o s x xs k e f h = absurd (true≢false f)
ended false false true s x xs k e f h = refl
ended false false false true x xs k e f h = refl
ended false false false false x xs k e f h = absurd (false≢true h)

pub word_ends : (s : List ℕ) → 1 ≤ length s → (is_operator (get_or s 0 0) || is_space (get_or s 0 0)) ≡ true
    → lex in_word s ≡ lex between s
unfolding lex
word_ends [] some h = absurd (omega arith)
word_ends (x ∷ xs) some h =
    ended (x == 34) (x == 92) (is_operator x) (is_space x) x xs (λ n. lex n xs) (no_end x 34 h refl) (no_end x 92 h refl) h

in_middle : (q b o s : Bool) (x : ℕ) (xs : List ℕ) (k : Mode → List Lexeme) → (o || s) ≡ false
    → lex_byte in_word (class_by q b o s) x xs k ≡ k in_word
in_middle true b o s x xs k h = refl
in_middle false true o s x xs k h = refl
in_middle false false true s x xs k h = absurd (true≢false h)
in_middle false false false true x xs k h = absurd (true≢false h)
in_middle false false false false x xs k h = refl

pub word_goes_on : (s : List ℕ) → 1 ≤ length s → (is_operator (get_or s 0 0) || is_space (get_or s 0 0)) ≡ false
    → lex in_word s ≡ lex in_word (tail s)
unfolding lex
word_goes_on [] some h = absurd (omega arith)
word_goes_on (x ∷ xs) some h =
    in_middle (x == 34) (x == 92) (is_operator x) (is_space x) x xs (λ n. lex n xs) h ∙ ap (lex in_word) (sym (tail_of x xs))

-- ---- between lexemes

pub after_quote : (s : List ℕ) → 1 ≤ length s → get_or s 0 0 ≡ 34 → colons (lex between s) ≡ colons (lex in_string (tail s))
unfolding lex
after_quote [] some e = absurd (omega arith)
after_quote (x ∷ xs) some e = ap (λ y. colons (lex between (y ∷ xs))) e ∙ ap (λ t. colons (lex in_string t)) (sym (tail_of x xs))

pub after_colon : (s : List ℕ) → 1 ≤ length s → get_or s 0 0 ≡ 58 → colons (lex between s) ≡ suc (colons (lex between (tail s)))
unfolding lex
after_colon [] some e = absurd (omega arith)
after_colon (x ∷ xs) some e =
    ap (λ y. colons (lex between (y ∷ xs))) e ∙ ap (λ t. suc (colons (lex between t))) (sym (tail_of x xs))

-- an operator other than the colon
no_colon : (a b c d f : Bool) (ls : List Lexeme) → (a || b || c || d || false || f) ≡ true
    → colons (cond a (token begin_object) (cond b (token end_object) (cond c (token begin_array) (cond d (token end_array) (cond f comma colon)))) ∷ ls) ≡ colons ls
no_colon true b c d f ls h = refl
no_colon false true c d f ls h = refl
no_colon false false true d f ls h = refl
no_colon false false false true f ls h = refl
no_colon false false false false true ls h = refl
no_colon false false false false false ls h = absurd (false≢true h)

marked : (q b o s : Bool) (x : ℕ) (xs : List ℕ) (k : Mode → List Lexeme) → q ≡ false → b ≡ false → (o || s) ≡ true
    → (o ≡ true → colons (operator_lexeme x ∷ k between) ≡ colons (k between))
    → colons (lex_byte between (class_by q b o s) x xs k) ≡ colons (k between)
marked true b o s x xs k e f h g = absurd (true≢false e)
marked false true o s x xs k e f h g = absurd (true≢false f)
marked false false true s x xs k e f h g = g refl
marked false false false true x xs k e f h g = refl
marked false false false false x xs k e f h g = absurd (false≢true h)

pub after_mark : (s : List ℕ) → 1 ≤ length s → get_or s 0 0 ≢ 58 → (is_operator (get_or s 0 0) || is_space (get_or s 0 0)) ≡ true
    → colons (lex between s) ≡ colons (lex between (tail s))
unfolding lex
after_mark [] some e h = absurd (omega arith)
after_mark (x ∷ xs) some e h =
    marked (x == 34) (x == 92) (is_operator x) (is_space x) x xs (λ n. lex n xs) (no_end x 34 h refl) (no_end x 92 h refl) h
    (λ o. no_colon (x == 123) (x == 125) (x == 91) (x == 93) (x == 44) (lex between xs) (subst (λ c. ((x == 123) || (x == 125) || (x == 91) || (x == 93) || c || (x == 44)) ≡ true) (ne_eqb x 58 e) o))
    ∙ ap (λ t. colons (lex between t)) (sym (tail_of x xs))

begun : (q b o s : Bool) (x : ℕ) (xs : List ℕ) (k : Mode → List Lexeme) → q ≡ false → (o || s) ≡ false
    → colons (lex_byte between (class_by q b o s) x xs k) ≡ colons (k in_word)
begun true b o s x xs k e h = absurd (true≢false e)
begun false true o s x xs k e h = refl
begun false false true s x xs k e h = absurd (true≢false h)
begun false false false true x xs k e h = absurd (true≢false h)
begun false false false false x xs k e h = refl

pub word_begins : (s : List ℕ) → 1 ≤ length s → get_or s 0 0 ≢ 34
    → (is_operator (get_or s 0 0) || is_space (get_or s 0 0)) ≡ false → colons (lex between s) ≡ colons (lex in_word (tail s))
unfolding lex
word_begins [] some e h = absurd (omega arith)
word_begins (x ∷ xs) some e h =
    begun (x == 34) (x == 92) (is_operator x) (is_space x) x xs (λ n. lex n xs) (ne_eqb x 34 e) h ∙ ap (λ t. colons (lex in_word t)) (sym (tail_of x xs))
