-- The payload of a token that a verifier accepts is JSON.
use Rattle.std.proofs.Common.{ℕ, List, Option, refl}
use Rattle.jwt_base.specs.declared.algorithms.AlgorithmFamily.{AlgorithmFamily}
use Rattle.jwt_base.specs.JsonText.{IsJson}
use Rattle.jwt_validation.specs.declared.validation.Validation.{Validation}
use Rattle.jsonwebtoken.specs.Order.{Passes}
use Rattle.jsonwebtoken.specs.Tests.{Contents, decode_order, header_call, payload_bytes_order, set_order, token_tests}
use Rattle.jsonwebtoken.specs.declared.refusal.Test.TheVariants.{HasThreeParts, PayloadIsBase64url, PayloadIsJson}
use Rattle.jsonwebtoken.proofs.EachTest.{met}
use Rattle.jwt_verifier.specs.Verifying.{order_of}
use Rattle.jwt_verifier.specs.declared.keys.Keys.{Keys}
use Rattle.jwt_verifier.specs.declared.keys.Keys.TheVariants.{One, Set}
use Rattle.jwt_c_calls.specs.Verdicts.{verifier_call}

pub payload_is_json : (f : Option AlgorithmFamily) (keys : Keys) (validation : Validation) (token : List ℕ) (time : ℕ) (t : Contents)
    → Passes (token_tests (verifier_call f keys validation token time)) (order_of keys) t → IsJson t.payload_bytes t.payload_value
payload_is_json f (One key) validation token time t p = met (verifier_call f (One key) validation token time) decode_order t p
    PayloadIsJson refl
payload_is_json f (Set set) validation token time t p =
    met (verifier_call f (Set set) validation token time) set_order t p PayloadIsJson refl

-- it is what the payload part of the token stands for
pub payload_is_part : (f : Option AlgorithmFamily) (keys : Keys) (validation : Validation) (token : List ℕ) (time : ℕ) (t : Contents)
    → Passes (token_tests (verifier_call f keys validation token time)) (order_of keys) t
    → Passes (token_tests (header_call token)) payload_bytes_order t
payload_is_part f (One key) validation token time t p = (
  met (verifier_call f (One key) validation token time) decode_order t p HasThreeParts refl,
  (met (verifier_call f (One key) validation token time) decode_order t p PayloadIsBase64url refl, tt),
)
payload_is_part f (Set set) validation token time t p = (
  met (verifier_call f (Set set) validation token time) set_order t p HasThreeParts refl,
  (met (verifier_call f (Set set) validation token time) set_order t p PayloadIsBase64url refl, tt),
)
