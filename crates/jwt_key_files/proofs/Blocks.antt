-- The block that a text holds: its body, and that it has one list of bytes.
use Rattle.std.proofs.Common.{◌≡◌, inl, inr, Bool, true, false, cond, ℕ, ◌+◌, ◌*◌, ◌/◌, ◌%◌, ◌<◌, List}
use Rattle.std.proofs.Common.{[], ◌∷◌, ◌++◌, length, get_or, take, drop, refl, ap, sym, subst, ◌∙◌, arith}
use Rattle.std.specs.Prelude.{slice_index, replicate, codes, All, not, ◌==◌}
use Rattle.std.specs.List.{list_all}
use Rattle.std.proofs.lemmas.Bool.{cases_lt}
use Rattle.std.proofs.lemmas.List.{append_cancel_left, append-nil, length-append, get_or_append_left, get_or_past}
use Rattle.std.proofs.Math.Seq.{take-append_seam, drop-append_seam, get_or-append_seam}
use Rattle.std.proofs.lemmas.List.Elements.{All-nil, All-cons, All-head, All-tail, All-append}
use Rattle.std.proofs.lemmas.List.Elements.{All-replicate, All-get_or, filter_more}
use Rattle.std.proofs.lemmas.List.Sums.{AllPass-from_list_all}
use Rattle.std.specs.declared.result.Result.TheVariants.{Ok}
use Rattle.base64.specs.Engines.{standard}
use Rattle.base64.specs.Rfc4648.{encode_symbols}
use Rattle.base64.specs.GeneralPurpose.{encode_of, decode_of}
use Rattle.base64.proofs.EngineFacts.{decode_of-encode_of}
use Rattle.jwt_base.specs.Base64Url.{IsStandardText, standard_characters, padding}
use Rattle.jwt_key_files.specs.private_clauses.Bodies.{IsBodyLength}
use Rattle.jwt_key_files.specs.Pem.{is_white, characters_of, IsBlock, IsClosed}
use Rattle.jwt_key_files.proofs.Prefixes.{heads, tails}

-- a byte that ends no body
abbrev pub IsPlain : ℕ → Type 0
IsPlain c = c ≡ 45 → ⊥

-- the same as a test, which each character of base64 meets
is_plain : ℕ → Bool
is_plain c = not (c == 45)

plain_from : (c : ℕ) → is_plain c ≡ true → IsPlain c
unfolding is_plain
plain_from c h = λ e. let f : false ≡ true = rw e at h in cc

table_test : list_all is_plain standard_characters ≡ true
unfolding is_plain
table_test = refl

table_plain : All IsPlain standard_characters
table_plain = λ k d l. plain_from _ (AllPass-from_list_all is_plain standard_characters table_test k d l)

entry_plain : (i : ℕ) → IsPlain (slice_index standard_characters i)
entry_plain i = elim (cases_lt i 64) [
  | inl l ↦ All-get_or IsPlain standard_characters i 0 l table_plain
  | inr g ↦ let z : get_or standard_characters i 0 ≡ 0 = get_or_past standard_characters i 0 g in
      rw z (λ e. cc)
]

zero_plain : (n : ℕ) → All IsPlain (replicate n 61)
zero_plain n = All-replicate IsPlain n 61 (λ e. cc)

two : (i j : ℕ) (s : List ℕ) → All IsPlain s
    → All IsPlain (slice_index standard_characters i ∷ slice_index standard_characters j ∷ s)
two i j s all =
    All-cons IsPlain (slice_index standard_characters i) (slice_index standard_characters j ∷ s) (entry_plain i)
    (All-cons IsPlain (slice_index standard_characters j) s (entry_plain j) all)

one : (i : ℕ) → All IsPlain (slice_index standard_characters i ∷ [])
one i = All-cons IsPlain (slice_index standard_characters i) [] (entry_plain i) (All-nil IsPlain)

symbols_plain : (m : List ℕ) → All IsPlain (encode_symbols standard_characters m)
unfolding encode_symbols
symbols_plain [] = All-nil IsPlain
symbols_plain (a ∷ []) = two (a / 4) (a % 4 * 16) [] (All-nil IsPlain)
symbols_plain (a ∷ b ∷ []) =
    two (a / 4) (a % 4 * 16 + b / 16) (slice_index standard_characters (b % 16 * 4) ∷ []) (one (b % 16 * 4))
symbols_plain (a ∷ b ∷ c ∷ rest) =
    let t = encode_symbols standard_characters rest in
    two (a / 4) (a % 4 * 16 + b / 16)
    (slice_index standard_characters (b % 16 * 4 + c / 64) ∷ slice_index standard_characters (c % 64) ∷ t)
    (two (b % 16 * 4 + c / 64) (c % 64) t (symbols_plain rest))

pub text_plain : (cs d : List ℕ) → IsStandardText cs d → All IsPlain cs
text_plain cs d h =
    subst (All IsPlain) (sym h.1) (All-append IsPlain (encode_symbols standard_characters d) (padding d)
    (symbols_plain d) (zero_plain _))

-- a text is that of one list of bytes
pub one_text : (cs d e : List ℕ) → IsStandardText cs d → IsStandardText cs e → d ≡ e
one_text cs d e h i =
    let f : encode_of standard d ≡ encode_of standard e = sym h.1 ∙ i.1 in
    let g : Ok d ≡ Ok e = sym (decode_of-encode_of standard d refl h.0) ∙ ap (decode_of standard) f
    ∙ decode_of-encode_of standard e refl i.0 in
    cc

-- the loop over the bytes of a body
pub characters_none : characters_of [] ≡ []
unfolding characters_of
characters_none = refl

one_more : (text : List ℕ) (i : ℕ) → i < length text
    → characters_of (take (i + 1) text) ≡ characters_of (take i text) ++ cond (not (is_white (get_or text i 0))) (get_or text i 0 ∷ []) []
unfolding characters_of
one_more text i within = filter_more (λ byte. not (is_white byte)) text i 0 within

pub more_white : (text : List ℕ) (i : ℕ) → i < length text → is_white (get_or text i 0) ≡ true
    → characters_of (take (i + 1) text) ≡ characters_of (take i text)
more_white text i within white =
    one_more text i within
    ∙ ap (λ (b : Bool). characters_of (take i text) ++ cond (not b) (get_or text i 0 ∷ []) []) white
    ∙ append-nil (characters_of (take i text))

pub more_kept : (text : List ℕ) (i : ℕ) → i < length text → is_white (get_or text i 0) ≡ false
    → characters_of (take (i + 1) text) ≡ characters_of (take i text) ++ (get_or text i 0 ∷ [])
more_kept text i within white =
    one_more text i within
    ∙ ap (λ (b : Bool). characters_of (take i text) ++ cond (not b) (get_or text i 0 ∷ []) []) white

-- a body, of which every character is plain
kept : (x : ℕ) (xs : List ℕ) → x ≡ 45 → characters_of (x ∷ xs) ≡ (45 ∷ characters_of xs)
unfolding characters_of
kept x xs e = rw e refl

as_kept : (x : ℕ) (xs : List ℕ) → characters_of (x ∷ xs) ≡ cond (not (is_white x)) (x ∷ characters_of xs) (characters_of xs)
unfolding characters_of
as_kept x xs = refl

rest_plain : (b : Bool) (x : ℕ) (xs : List ℕ) → All IsPlain (cond b (x ∷ xs) xs) → All IsPlain xs
rest_plain true x xs all = All-tail IsPlain x xs all
rest_plain false x xs all = all

body_plain : (xs : List ℕ) → All IsPlain (characters_of xs) → All IsPlain xs
body_plain [] all = All-nil IsPlain
body_plain (x ∷ xs) all =
    All-cons IsPlain x xs (λ e. All-head IsPlain 45 (characters_of xs) (subst (All IsPlain) (kept x xs e) all) refl)
    (body_plain xs (rest_plain (not (is_white x)) x (characters_of xs)
    (subst (All IsPlain) (as_kept x xs) all)))

pub plain_body : (label block b : List ℕ) (x : IsBlock label block b) → All IsPlain x.body
plain_body label block b x = body_plain x.body (text_plain (characters_of x.body) b x.base64)

-- the part before the first dash
one_body : (a b c d : List ℕ) → All IsPlain a → All IsPlain c → (a ++ (45 ∷ b)) ≡ (c ++ (45 ∷ d)) → a ≡ c
one_body [] b [] d p q e = refl
one_body [] b (z ∷ c) d p q e = absurd (All-head IsPlain z c q (sym (heads 45 z b (c ++ (45 ∷ d)) e)))
one_body (x ∷ a) b [] d p q e = absurd (All-head IsPlain x a p (heads x 45 (a ++ (45 ∷ b)) d e))
one_body (x ∷ a) b (z ∷ c) d p q e =
    let h : x ≡ z = heads x z (a ++ (45 ∷ b)) (c ++ (45 ∷ d)) e in
    let t : a ≡ c = one_body a b c d (All-tail IsPlain x a p) (All-tail IsPlain z c q)
    (tails x z (a ++ (45 ∷ b)) (c ++ (45 ∷ d)) e) in
    cc

-- the length of the body is that which was counted
counted : (text body after : List ℕ) (n : ℕ) → IsBodyLength text n → All IsPlain body → text ≡ (body ++ (45 ∷ after))
    → n ≡ length body
counted text body after n l all e = elim (cases_lt n (length body)) [
  | inl below ↦
      let long : length text ≡ length body + length (45 ∷ after) = ap length e ∙ length-append body (45 ∷ after) in
      let same : get_or text n 0 ≡ get_or body n 0 = ap (λ (s : List ℕ). get_or s n 0) e
      ∙ get_or_append_left body (45 ∷ after) 0 n below in
      absurd (all n 0 below (sym same ∙ l.ends (omega (arith, long, below))))
  | inr g ↦ elim (cases_lt (length body) n) [
    | inl above ↦ absurd (l.none (length body) above (ap (λ (s : List ℕ). get_or s (length body) 0) e
        ∙ get_or-append_seam body 45 after 0))
    | inr h ↦ omega (arith, g, h)
  ]
]

dashes : (label end : List ℕ) (x : IsClosed label end) → end ≡ (45 ∷ (codes "----END " ++ (label ++ (codes "-----" ++ x.after))))
dashes label end x = x.text_is

opened : (label block text b : List ℕ) → block ≡ (label ++ (codes "-----" ++ text)) → (x : IsBlock label block b)
    → text ≡ (x.body ++ x.end)
opened label block text b h x =
    append_cancel_left (codes "-----") text (x.body ++ x.end)
    (append_cancel_left label (codes "-----" ++ text) (codes "-----" ++ (x.body ++ x.end)) (sym h ∙ x.opens))

same_length : (label block text b : List ℕ) (n : ℕ) → block ≡ (label ++ (codes "-----" ++ text)) → IsBodyLength text n
    → (x : IsBlock label block b) → n ≡ length x.body
same_length label block text b n h l x =
    counted text x.body _ n l (plain_body label block b x)
    (opened label block text b h x ∙ ap (λ (s : List ℕ). x.body ++ s) (dashes label x.end x.closes))

same_body : (label block text first b : List ℕ) (n : ℕ) → block ≡ (label ++ (codes "-----" ++ text)) → IsBodyLength text n
    → first ≡ take n text → (x : IsBlock label block b) → first ≡ x.body
same_body label block text first b n h l f x =
    f ∙ ap (take n) (opened label block text b h x)
    ∙ ap (λ (k : ℕ). take k (x.body ++ x.end)) (same_length label block text b n h l x) ∙ take-append_seam x.body x.end

same_end : (label block text second b : List ℕ) (n : ℕ) → block ≡ (label ++ (codes "-----" ++ text)) → IsBodyLength text n
    → second ≡ drop n text → (x : IsBlock label block b) → second ≡ x.end
same_end label block text second b n h l f x =
    f ∙ ap (drop n) (opened label block text b h x)
    ∙ ap (λ (k : ℕ). drop k (x.body ++ x.end)) (same_length label block text b n h l x) ∙ drop-append_seam x.body x.end

pub no_bytes : (label block text first cs b : List ℕ) (n : ℕ) → block ≡ (label ++ (codes "-----" ++ text))
    → IsBodyLength text n → first ≡ take n text → cs ≡ characters_of first
    → ((d : List ℕ) → IsStandardText cs d → ⊥) → IsBlock label block b → ⊥
no_bytes label block text first cs b n h l f c none x =
    none b (subst (λ (s : List ℕ). IsStandardText s b)
    (sym (c ∙ ap characters_of (same_body label block text first b n h l f x))) x.base64)

pub not_closed : (label block text second b : List ℕ) (n : ℕ) → block ≡ (label ++ (codes "-----" ++ text))
    → IsBodyLength text n → second ≡ drop n text → (IsClosed label second → ⊥) → IsBlock label block b → ⊥
not_closed label block text second b n h l f none x =
    none (subst (IsClosed label) (sym (same_end label block text second b n h l f x)) x.closes)

-- a block with a label holds one list of bytes
pub one_block : (label block d e : List ℕ) → IsBlock label block d → IsBlock label block e → d ≡ e
one_block label block d e x y =
    let f : (x.body ++ x.end) ≡ (y.body ++ y.end) = opened label block (x.body ++ x.end) e x.opens y in
    let g : x.body ≡ y.body = one_body x.body _ y.body _ (plain_body label block d x) (plain_body label block e y)
    (sym (ap (λ (s : List ℕ). x.body ++ s) (dashes label x.end x.closes)) ∙ f
    ∙ ap (λ (s : List ℕ). y.body ++ s) (dashes label y.end y.closes)) in
    one_text (characters_of y.body) d e (subst (λ (s : List ℕ). IsStandardText (characters_of s) d) g x.base64) y.base64
