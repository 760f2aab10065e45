-- The calls by the provider of HMAC (RFC 7518 section 3.2), over options and keys as plain values.
use Rattle.std.specs.Prelude.{ℕ, List, Option, None}
use Rattle.serde_json.specs.Data.{Data}
use Rattle.jwt_crypto.specs.HmacKeys.{hmac_signer_refusal, hmac_verifier_refusal, HmacSigns, HmacAccepts}
use Rattle.jwt_header.specs.declared.header.Header.{Header}
use Rattle.jwt_keys.specs.Key.{SecretKey}
use Rattle.jwt_validation.specs.Options.{Options}
use Rattle.jsonwebtoken.specs.Issue.{Issue, WrittenAs, issuing}
use Rattle.jsonwebtoken.specs.Tests.{Call, Compact, KeySource, verifying_call}

-- the call of `decode` with a key, and of `decode_with_set` with the keys of a set
abbrev pub decoding_by_hmac : {T : Type 0} → (Data → T → Type 0) → List ℕ → KeySource → Options → ℕ → Call T
decoding_by_hmac reads text keys options time =
    verifying_call (Compact text) keys options time hmac_verifier_refusal HmacAccepts reads

-- the call of `encode` of claims that are written as this value, if they are written at all
abbrev pub encoding_by_hmac : Header → Option Data → SecretKey → Issue
encoding_by_hmac header claims key =
    issuing header (WrittenAs claims) key hmac_signer_refusal (λ _ _ _. None) HmacSigns
