-- The result of a step of a call: the tests that it makes hold, or which of them fails.
use Rattle.std.specs.Prelude.{◌≡◌, ◌⊎◌, ℕ, List, Some, Result, Ok, Err}
use Rattle.serde_json.specs.Data.{Data}
use Rattle.jwt_base.specs.Base64Url.{IsPart}
use Rattle.jwt_base.specs.JsonText.{IsJson}
use Rattle.jwt_base.specs.Kind.{Kind}
use Rattle.jwt_base.specs.KindOf.{kind_of, IsMemory}
use Rattle.jwt_header.specs.Header.{ReadsHeader}
use Rattle.jwt_header.specs.declared.header.Header.{Header}
use Rattle.jwt_keys.specs.Key.{Key}
use Rattle.jwt_keys.specs.KeyOfJwk.{IsKeyOf}
use Rattle.jwt_keys.specs.declared.jwk.Jwk.{Jwk}
use Rattle.jsonwebtoken.specs.FailedAt.{FailedBy}
use Rattle.jsonwebtoken.specs.Order.{Passes}
use Rattle.jsonwebtoken.specs.Tests.{Parts, HasParts, set_of, named_key, Call, Test, HasThreeParts}
use Rattle.jsonwebtoken.specs.Tests.{HeaderIsBase64url, HeaderIsJson, HeaderIsValid, KeyIsFound, KeyIsUsable, SignatureIsBase64url}
use Rattle.jsonwebtoken.specs.Tests.{PayloadIsBase64url, PayloadIsJson, ClaimsMatchType, Contents, Condition, token_tests}
use Rattle.jsonwebtoken.specs.declared.refusal.Refusal.{Refusal}

-- the result meets the first relation; or the test and the kind of the refusal meet the second, unless memory ran out
abbrev pub Meets : {R : Type 0} → (R → Type 0) → (Test → Kind → Type 0) → Result R Refusal → Type 0
Meets P Q (Ok r) = P r
Meets P Q (Err f) = IsMemory f.error ⊎ Q f.test (kind_of f.error)

-- The meaning of a result for one test: it is there if it meets this relation; if nothing does, the refusal is by this
-- test, and of one of these kinds.
abbrev pub Finds : {R : Type 0} → Test → (R → Type 0) → Type 0 → (Kind → Type 0) → Result R Refusal → Type 0
Finds c P None K = Meets P (λ f k. None × ((c ≡ f) × K k))

-- the same for a test of one condition
abbrev pub Asks : Test → Type 0 → (Kind → Type 0) → Result (Unit {0}) Refusal → Type 0
Asks c P K = Finds c (λ _. P) (P → ⊥) K

module _ {T : Type 0} (call : Call T) where
  -- the test fails at these contents, whatever the value that it looks for
  abbrev pub FailsAt : Test → Contents → Type 0
  FailsAt HasThreeParts t = (p : Parts) → HasParts call.token p → ⊥
  FailsAt HeaderIsBase64url t = (b : List ℕ) → IsPart t.parts.header b → ⊥
  FailsAt HeaderIsJson t = (d : Data) → IsJson t.header_bytes d → ⊥
  FailsAt HeaderIsValid t = (h : Header) → ReadsHeader t.header_value h → ⊥
  FailsAt KeyIsFound t = (j : Jwk) → named_key (set_of call.keys) t.header ≡ Some j → ⊥
  FailsAt KeyIsUsable t = (k : Key) → IsKeyOf t.jwk.algorithm k → ⊥
  FailsAt SignatureIsBase64url t = (b : List ℕ) → IsPart t.parts.signature b → ⊥
  FailsAt PayloadIsBase64url t = (b : List ℕ) → IsPart t.parts.payload b → ⊥
  FailsAt PayloadIsJson t = (d : Data) → IsJson t.payload_bytes d → ⊥
  FailsAt ClaimsMatchType t = (c : T) → call.reads t.payload_value c → ⊥
  FailsAt c t = Condition call c t → ⊥

  abbrev pub Failed : List Test → Contents → Test → Kind → Type 0
  Failed = FailedBy (token_tests call) FailsAt

  -- The meaning of a result for these tests: some contents pass them, and the result shows them; or
  -- some pass them up to one that fails, which the refusal carries, unless memory ran out.
  abbrev pub Step : {R : Type 0} → List Test → (Contents → Contents) → (Contents → R → Type 0)
      → Result R Refusal → Type 0
  Step order at Shows = Meets (λ r. (x : Contents) × Passes (token_tests call) order (at x) × Shows x r)
      (λ f k. (x : Contents) × Failed order (at x) f k)
