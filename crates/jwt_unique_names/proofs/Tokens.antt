-- The text of a value has a colon for each member.
use Rattle.std.proofs.Common.{◌≡◌, ℕ, suc, ◌+◌, List, [], ◌∷◌, ◌++◌, Bool, true, false, refl, arith}
use Rattle.std.proofs.lemmas.Bool.{false≢true}
use Rattle.json.specs.Token.{Token}
use Rattle.json.specs.Json.{Json, null, boolean, number, string, array, object, Items, no_items, item, Members, no_members}
use Rattle.json.specs.Json.{member}
use Rattle.json.specs.Lex.{Lexeme, token, comma, colon, Place, fresh, after_value, after_comma, after_key, begins_colon}
use Rattle.json.specs.Lex.{may_begin, may_close, if_allowed, place_token, punctuate}
use Rattle.json.specs.Tree.{json_tokens, items_tokens, members_tokens}
use Rattle.jwt_unique_names.specs.private_clauses.Counts.{colons}

abbrev key_weight : Token → ℕ
key_weight Token.begin_object = 0
key_weight Token.end_object = 0
key_weight Token.begin_array = 0
key_weight Token.end_array = 0
key_weight (Token.key s) = 1
key_weight (Token.string s) = 0
key_weight (Token.number s) = 0
key_weight (Token.boolean b) = 0
key_weight Token.null = 0
key_weight Token.bad = 0

abbrev bad_weight : Token → ℕ
bad_weight Token.begin_object = 0
bad_weight Token.end_object = 0
bad_weight Token.begin_array = 0
bad_weight Token.end_array = 0
bad_weight (Token.key s) = 0
bad_weight (Token.string s) = 0
bad_weight (Token.number s) = 0
bad_weight (Token.boolean b) = 0
bad_weight Token.null = 0
bad_weight Token.bad = 1

abbrev pub key_count : List Token → ℕ
key_count [] = 0
key_count (t ∷ ts) = key_weight t + key_count ts

abbrev pub bad_count : List Token → ℕ
bad_count [] = 0
bad_count (t ∷ ts) = bad_weight t + bad_count ts

-- ---- lexemes

-- the colons that are due
abbrev due : Place → ℕ
due fresh = 0
due after_value = 0
due after_comma = 0
due after_key = 1

-- n colons stand for these keys and those that are due
abbrev Fits : ℕ → ℕ → List Token → Type 0
Fits d n ts = bad_count ts ≡ 0 → key_count ts + d ≡ n

none_due : (p : Place) → may_begin p ≡ true → due p ≡ 0
none_due fresh e = refl
none_due after_value e = refl
none_due after_comma e = refl
none_due after_key e = absurd (false≢true e)

none_due_at_end : (p : Place) → may_close p ≡ true → due p ≡ 0
none_due_at_end fresh e = refl
none_due_at_end after_value e = refl
none_due_at_end after_comma e = refl
none_due_at_end after_key e = absurd (false≢true e)

Fits-if_allowed : (b : Bool) (t : Token) (k : Place → List Token) (next : Place) (d n : ℕ) → (b ≡ true → d ≡ 0)
    → key_weight t ≡ due next → Fits (due next) n (k next) → Fits d n (if_allowed b t k next)
Fits-if_allowed true t k next d n none same fits h = omega (arith, none refl, fits (omega arith))
Fits-if_allowed false t k next d n none same fits h = absurd (omega arith)

Fits-place_token : (p : Place) (t : Token) (b : Bool) (k : Place → List Token) (n : ℕ) → ((q : Place) → Fits (due q) n (k q))
    → Fits (due p) n (place_token p t b k)
Fits-place_token p Token.begin_object b k n fits h =
    Fits-if_allowed (may_begin p) Token.begin_object k fresh (due p) n (none_due p) refl (fits fresh) h
Fits-place_token p Token.end_object b k n fits h =
    Fits-if_allowed (may_close p) Token.end_object k after_value (due p) n (none_due_at_end p) refl (fits after_value) h
Fits-place_token p Token.begin_array b k n fits h =
    Fits-if_allowed (may_begin p) Token.begin_array k fresh (due p) n (none_due p) refl (fits fresh) h
Fits-place_token p Token.end_array b k n fits h =
    Fits-if_allowed (may_close p) Token.end_array k after_value (due p) n (none_due_at_end p) refl (fits after_value) h
Fits-place_token p (Token.key s) b k n fits h = absurd (omega arith)
Fits-place_token p (Token.string s) true k n fits h =
    Fits-if_allowed (may_begin p) (Token.key s) k after_key (due p) n (none_due p) refl (fits after_key) h
Fits-place_token p (Token.string s) false k n fits h =
    Fits-if_allowed (may_begin p) (Token.string s) k after_value (due p) n (none_due p) refl (fits after_value) h
Fits-place_token p (Token.number s) b k n fits h =
    Fits-if_allowed (may_begin p) (Token.number s) k after_value (due p) n (none_due p) refl (fits after_value) h
Fits-place_token p (Token.boolean v) b k n fits h =
    Fits-if_allowed (may_begin p) (Token.boolean v) k after_value (due p) n (none_due p) refl (fits after_value) h
Fits-place_token p Token.null b k n fits h =
    Fits-if_allowed (may_begin p) Token.null k after_value (due p) n (none_due p) refl (fits after_value) h
Fits-place_token p Token.bad b k n fits h = absurd (omega arith)

Fits-punctuate : (ls : List Lexeme) (p : Place) → Fits (due p) (colons ls) (punctuate p ls)
unfolding punctuate
Fits-punctuate [] fresh h = omega arith
Fits-punctuate [] after_value h = omega arith
Fits-punctuate [] after_comma h = absurd (omega arith)
Fits-punctuate [] after_key h = absurd (omega arith)
Fits-punctuate (token t ∷ ls) p h =
    Fits-place_token p t (begins_colon ls) (λ next. punctuate next ls) (colons ls) (λ q. Fits-punctuate ls q) h
Fits-punctuate (comma ∷ ls) fresh h = absurd (omega arith)
Fits-punctuate (comma ∷ ls) after_value h = Fits-punctuate ls after_comma h
Fits-punctuate (comma ∷ ls) after_comma h = absurd (omega arith)
Fits-punctuate (comma ∷ ls) after_key h = absurd (omega arith)
Fits-punctuate (colon ∷ ls) fresh h = absurd (omega arith)
Fits-punctuate (colon ∷ ls) after_value h = absurd (omega arith)
Fits-punctuate (colon ∷ ls) after_comma h = absurd (omega arith)
Fits-punctuate (colon ∷ ls) after_key h = omega (arith, Fits-punctuate ls fresh h)

-- where no token is bad there are as many keys as colons
pub keys_are_colons : (ls : List Lexeme) → bad_count (punctuate fresh ls) ≡ 0 → key_count (punctuate fresh ls) ≡ colons ls
keys_are_colons ls h = omega (arith, Fits-punctuate ls fresh h)

-- ---- the tokens of a value

-- the members of the objects in JSON, at any depth, as often as they are written
abbrev mutual
  pub written : Json → ℕ
  written null = 0
  written (boolean b) = 0
  written (number s) = 0
  written (string s) = 0
  written (array js) = items_written js
  written (object ms) = members_written ms

  pub items_written : Items → ℕ
  items_written no_items = 0
  items_written (item j js) = written j + items_written js

  pub members_written : Members → ℕ
  members_written no_members = 0
  members_written (member k j ms) = suc (written j + members_written ms)

-- n keys, and no bad token
abbrev pub HasKeys : List Token → ℕ → Type 0
HasKeys ts n = (key_count ts ≡ n) × (bad_count ts ≡ 0)

HasKeys-append : (ts us : List Token) (m n : ℕ) → HasKeys ts m → HasKeys us n → HasKeys (ts ++ us) (m + n)
HasKeys-append [] us m n h k = (omega (arith, h.0, k.0), k.1)
HasKeys-append (t ∷ ts) us m n h k =
    let rest = HasKeys-append ts us (key_count ts) n (refl, omega (arith, h.1)) k in
    (omega (arith, rest.0, h.0), omega (arith, rest.1, h.1))

mutual
  pub HasKeys-json_tokens : (j : Json) → HasKeys (json_tokens j) (written j)
  HasKeys-json_tokens null = (refl, refl)
  HasKeys-json_tokens (boolean b) = (refl, refl)
  HasKeys-json_tokens (number s) = (refl, refl)
  HasKeys-json_tokens (string s) = (refl, refl)
  HasKeys-json_tokens (array js) = let h = HasKeys-items_tokens js in (omega (arith, h.0), omega (arith, h.1))
  HasKeys-json_tokens (object ms) = let h = HasKeys-members_tokens ms in (omega (arith, h.0), omega (arith, h.1))

  HasKeys-items_tokens : (js : Items) → HasKeys (items_tokens js) (items_written js)
  HasKeys-items_tokens no_items = (refl, refl)
  HasKeys-items_tokens (item j js) =
      HasKeys-append (json_tokens j) (items_tokens js) (written j) (items_written js) (HasKeys-json_tokens j) (HasKeys-items_tokens js)

  HasKeys-members_tokens : (ms : Members) → HasKeys (members_tokens ms) (members_written ms)
  HasKeys-members_tokens no_members = (refl, refl)
  HasKeys-members_tokens (member k j ms) =
      let h = HasKeys-append (json_tokens j) (members_tokens ms) (written j) (members_written ms) (HasKeys-json_tokens j) (HasKeys-members_tokens ms) in
      (omega (arith, h.0), omega (arith, h.1))
