-- What a verifier decides.
use Rattle.std.specs.Prelude.{◌≤◌, ◌<◌, ℕ, List, Result, Ok, Err}
use Rattle.jwt_base.specs.declared.json.claims.Claims.{Ghosts as ClaimsOf}
use Rattle.jwt_standard.specs.StandardKeys.{verifier_refusal, StandardAccepts}
use Rattle.jwt_validation.specs.OptionsOf.{options_of}
use Rattle.jwt_validation.specs.declared.validation.Validation.{Validation}
use Rattle.jsonwebtoken.specs.Tests.{Call, Compact, KeySource, Given, InSet, decode_order, set_order, verifying_call}
use Rattle.jsonwebtoken.specs.declared.refusal.Test.{Test}
use Rattle.jwt_verifier.specs.declared.keys.Keys.{Keys}
use Rattle.jwt_verifier.specs.declared.keys.Keys.TheVariants.{One, Set}
use Rattle.jwt_verifier.specs.declared.verifier.VerifierRefusal.{VerifierRefusal}
use Rattle.jwt_verifier.specs.declared.verifier.VerifierRefusal.TheVariants.{TooLong, Failed}

-- where the key of a token comes from
abbrev pub source_of : Keys → KeySource
source_of (One key) = Given key
source_of (Set set) = InSet set.keys.items

-- the tests, in the order of `decode` or of `decode_with_set`
abbrev pub order_of : Keys → List Test
order_of (One key) = decode_order
order_of (Set set) = set_order

-- the call of `decode` or of `decode_with_set` by `StandardProvider`, with these keys and options
abbrev pub call_with : {T : Type 0} → ClaimsOf T → Keys → Validation → List ℕ → ℕ → Call T
call_with claims keys validation token time =
    verifying_call (Compact token) (source_of keys) (options_of validation) time
    verifier_refusal StandardAccepts claims.reads

-- A result that meets this relation, for a token of this length. A token that is longer than the limit is
-- refused by its length alone.
abbrev pub IsBounded : {R E : Type 0} → (Result R E → Type 0) → ℕ → ℕ → Result R (VerifierRefusal E) → Type 0
IsBounded Is limit len (Ok y) = (len ≤ limit) × Is (Ok y)
IsBounded Is limit len (Err TooLong) = limit < len
IsBounded Is limit len (Err (Failed e)) = (len ≤ limit) × Is (Err e)
