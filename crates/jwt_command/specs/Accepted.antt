-- Which tokens are accepted, by the tests of `decode` and `decode_with_set`.
use Rattle.std.specs.Prelude.{◌≡◌, ⊤, ℕ, List, Option, Some, None, Result, Ok, Err, map, option_map}
use Rattle.std.specs.Char.{to_ascii_lowercase}
use Rattle.jwt_base.specs.Claims.{IsValue}
use Rattle.jwt_base.specs.KindOf.{IsMemory}
use Rattle.jwt_header.specs.declared.header.Header.{Header}
use Rattle.jwt_validation.specs.Options.{Options}
use Rattle.jwt_standard.specs.StandardKeys.{verifier_refusal, StandardAccepts}
use Rattle.jsonwebtoken.specs.Order.{Passes}
use Rattle.jsonwebtoken.specs.Calls.{Carries}
use Rattle.jsonwebtoken.specs.Refused.{DecidesByTest, IsRefusal}
use Rattle.jsonwebtoken.specs.declared.decoding.TokenData.{TokenData}
use Rattle.jsonwebtoken.specs.declared.refusal.Refusal.{Refusal}
use Rattle.jsonwebtoken.specs.Tests.{Call, Contents, Compact, token_tests, verifying_call}
use Rattle.serde_json.specs.View.{view}
use Rattle.serde_json.specs.declared.value.Value.{Value}
use Rattle.jwt_verifier.specs.Verifying.{order_of, source_of}
use Rattle.jwt_verifier.specs.declared.keys.Keys.{Keys}
use Rattle.jwt_findings.specs.declared.refusals.TokenRefusal.{TokenRefusal}
use Rattle.jwt_findings.specs.declared.refusals.TokenRefusal.TheVariants.{Refused, OtherType}

-- a token, checked with these keys and options at a time, by the provider of all algorithms
abbrev pub checking : List ℕ → Keys → Options → ℕ → Call Value
checking token keys options time =
    verifying_call (Compact token) (source_of keys) options time verifier_refusal StandardAccepts IsValue

-- the token passes every test (RFC 7515 section 5.2, RFC 7519 section 7.2)
abbrev pub PassesAll : List ℕ → Keys → Options → ℕ → Contents → Type 0
PassesAll token keys options time t =
    Passes (token_tests (checking token keys options time)) (order_of keys) t

-- the header has the type that is asked for, if there is one, in letters of either case
-- (RFC 7515 section 4.1.9, RFC 8725 section 3.11)
abbrev pub HasType : Option (List ℕ) → Header → Type 0
HasType None header = ⊤
HasType (Some typ) header =
    option_map (map to_ascii_lowercase) header.typ ≡ Some (map to_ascii_lowercase typ)

-- the token is accepted
abbrev pub IsAccepted : List ℕ → Keys → Options → ℕ → Option (List ℕ) → Contents → Type 0
IsAccepted token keys options time typ t = PassesAll token keys options time t × HasType typ t.header

-- the token is not accepted: by its first failed test, or by its type
abbrev pub IsTokenRefusal : List ℕ → Keys → Options → ℕ → Option (List ℕ) → TokenRefusal → Type 0
IsTokenRefusal token keys options time typ (Refused refusal) =
    (¬ IsMemory refusal.error) × IsRefusal (token_tests (checking token keys options time)) (order_of keys) refusal
IsTokenRefusal token keys options time typ OtherType =
    (t : Contents) × PassesAll token keys options time t × ¬ HasType typ t.header

-- the result of the tests: header and claims, or the first failed test
abbrev pub IsDecoded : List ℕ → Keys → Options → ℕ → Result (TokenData Value) Refusal → Type 0
IsDecoded token keys options time r =
    DecidesByTest (token_tests (checking token keys options time)) (order_of keys)
    (Carries (checking token keys options time)) r

-- the verdict: header and claims of a token that is accepted, or why it is not
abbrev pub IsTypedVerdict : List ℕ → Keys → Options → ℕ → Option (List ℕ) → Result (TokenData Value) TokenRefusal → Type 0
IsTypedVerdict token keys options time typ (Ok d) = (t : Contents) × IsAccepted token keys options time typ t
    × (t.header ≡ d.header) × (view d.claims ≡ t.payload_value)
IsTypedVerdict token keys options time typ (Err reason) = IsTokenRefusal token keys options time typ reason

-- why the token is not accepted, or nothing if it is
abbrev pub IsRefusalIfAny : List ℕ → Keys → Options → ℕ → Option (List ℕ) → Option TokenRefusal → Type 0
IsRefusalIfAny token keys options time typ None = (t : Contents) × IsAccepted token keys options time typ t
IsRefusalIfAny token keys options time typ (Some reason) = IsTokenRefusal token keys options time typ reason
