-- A text, its value, and the count of its colons.
use Rattle.std.proofs.Common.{◌≡◌, ◌⊎◌, inl, inr, ℕ, ◌<◌, ◌≤◌, List, [], ◌∷◌, Option, Some, None, option_and_then, refl, sym, ap}
use Rattle.std.proofs.Common.{◌∙◌, subst, arith, append-nil}
use Rattle.std.specs.Prelude.{◌↔◌, ◌+◌, IsSomeAnd, IfSome, IfNone, IsTrue, nat_eq}
use Rattle.std.specs.Option.{option_eq}
use Rattle.std.proofs.lemmas.Bool.{false≢true, eq-eqb, eqb-true}
use Rattle.json.specs.Token.{Token}
use Rattle.json.specs.Lex.{between, lex, tokens}
use Rattle.json.specs.Json.{Json, value, if_last, document}
use Rattle.json.specs.Json as json
use Rattle.json.specs.Strict.{HasUniqueKeys}
use Rattle.json.specs.Tree.{json_tokens}
use Rattle.json.proofs.Nesting.{value-depth}
use Rattle.json.proofs.Printed.Trees.{value-json_tokens}
use Rattle.json.proofs.Unique.Spelling.{value-json_tokens_back}
use Rattle.serde_json.specs.Data.{Data}
use Rattle.serde_json.specs.Read.{of_json, max_depth, read}
use Rattle.jwt_base.specs.JsonText.{IsJson}
use Rattle.jwt_unique_names.specs.private_clauses.Counts.{colons, count}
use Rattle.jwt_unique_names.proofs.Tokens.{HasKeys, HasKeys-json_tokens, written, keys_are_colons}
use Rattle.jwt_unique_names.proofs.Kept.{count-of_json}

parts : (o : Option (Json × List Token)) (d : Data) → option_and_then of_json (option_and_then (λ p. if_last p.0 p.1) o) ≡ Some d
    → (j : Json) × (o ≡ Some (j, [])) × (of_json j ≡ Some d)
parts None d e = absurd (cc)
parts (Some (j, [])) d e = (j, refl, e)
parts (Some (j, t ∷ r)) d e = absurd (cc)

-- what is read within fewer levels is the document
record Meaning (text : List ℕ) (d : Data) : Type 0 where
  j : Json
  is : document text ≡ Some j
  spelled : tokens text ≡ json_tokens j
  gives : of_json j ≡ Some d

meaning : (text : List ℕ) (d : Data) → read text ≡ Some d → Meaning text d
meaning text d e =
    let p = parts (value max_depth (tokens text)) d e in
    let spelled : tokens text ≡ json_tokens p.0 = value-json_tokens_back max_depth (tokens text) [] p.0 p.1 ∙ append-nil (json_tokens p.0) in
    let deep = value-depth max_depth (tokens text) [] p.0 p.1 in
    let again : value json.max_depth (tokens text) ≡ Some (p.0, []) =
    ap (value json.max_depth) (spelled ∙ sym (append-nil (json_tokens p.0))) ∙ value-json_tokens p.0 json.max_depth [] (omega (arith, deep)) in
    record { j = p.0; is = ap (option_and_then (λ q. if_last q.0 q.1)) again; spelled = spelled; gives = p.2 }

colons_written : (text : List ℕ) (d : Data) (m : Meaning text d) → colons (lex between text) ≡ written m.j
colons_written text d m =
    let h = subst (λ ts. HasKeys ts (written m.j)) (sym m.spelled) (HasKeys-json_tokens m.j) in
    sym (keys_are_colons (lex between text) h.1) ∙ h.0

abbrev pub Counted : ℕ → ℕ → Type 0 → Type 0
Counted n w U = ((n ≡ w) ↔ U) × (n ≤ w)

counted : (n w : ℕ) (U : Type 0) → ((n ≡ w) × U) ⊎ ((n < w) × (U → ⊥)) → Counted n w U
counted n w U (inl a) = ((λ e. a.1, λ u. a.0), omega (arith, a.0))
counted n w U (inr a) = ((λ e. absurd (omega (arith, a.0)), λ u. absurd (a.1 u)), omega (arith, a.0))

-- the value has as many members as the text has colons if and only if no name comes twice, and no more in any case
pub members_are_colons : (text : List ℕ) (d : Data) → IsJson text d
    → Counted (count d) (colons (lex between text)) (IsSomeAnd (document text) HasUniqueKeys)
members_are_colons text d h =
    let m = meaning text d h.1 in
    subst (λ o. Counted (count d) (colons (lex between text)) (IsSomeAnd o HasUniqueKeys)) (sym m.is)
    (subst (λ n. Counted (count d) n (HasUniqueKeys m.j)) (sym (colons_written text d m)) (counted (count d) (written m.j) (HasUniqueKeys m.j) (count-of_json m.j d m.gives)))

-- what is left of w when n is taken from it
pub none_left : (o : Option ℕ) (n w : ℕ) (U : Type 0) → IfSome o (λ r. r + n ≡ w) → IfNone o (w < n) → Counted n w U
    → IsTrue (option_eq nat_eq o (Some 0)) ↔ U
none_left None n w U some none c = (λ e. absurd (false≢true e), λ u. let same = c.0.1 u in absurd (omega arith))
none_left (Some r) n w U some none c = (
  λ e. let zero = eqb-true r 0 e in c.0.0 (omega arith),
  λ u. let same = c.0.1 u in eq-eqb r 0 (omega arith),
)
