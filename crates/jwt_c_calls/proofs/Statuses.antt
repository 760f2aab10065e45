-- The text of a refusal's status is that of its kind, as far as a status tells it.
use Rattle.std.proofs.Common.{◌≡◌, ◌+◌, ℕ, [], Bool, true, false, Some, refl, slice_get, unwrap_or, codes, if◌then◌else◌}
use Rattle.std.specs.Str.{bytes_eq}
use Rattle.jwt_base.specs.Kind.{Kind, InvalidToken, InvalidSignature, InvalidEcdsaKey, InvalidEddsaKey}
use Rattle.jwt_base.specs.Kind.{RsaFailedSigning, InvalidAlgorithmName, UnsupportedAlgorithm, InvalidKeyFormat}
use Rattle.jwt_base.specs.Kind.{ExpiredSignature, InvalidIssuer, InvalidAudience, InvalidSubject, ImmatureSignature}
use Rattle.jwt_base.specs.Kind.{InvalidAlgorithm, MissingAlgorithm, MissingRequiredClaim, InvalidClaimFormat}
use Rattle.jwt_base.specs.Kind.{InvalidRsaKey, Signing, Provider, Base64, Json, Utf8, OutOfMemory, ClockBeforeEpoch}
use Rattle.jwt_base.specs.Kind.{InvalidCrit, NoKey}
use Rattle.jwt_c_calls.specs.Status.{claim_names, kind_part, number, status_text, told_text}

abbrev place : Bool → Bool → Bool → Bool → Bool → ℕ
place a b c d e = if a then 0 else (if b then 1 else (if c then 2 else (if d then 3 else (if e then 4 else 19))))

missing : (a b c d e : Bool) → status_text (40 + place a b c d e)
    ≡ Some (told_text (MissingRequiredClaim (unwrap_or (slice_get claim_names (place a b c d e)) [])))
missing true b c d e = refl
missing false true c d e = refl
missing false false true d e = refl
missing false false false true e = refl
missing false false false false true = refl
missing false false false false false = refl

malformed : (a b c d e : Bool) → status_text (60 + place a b c d e)
    ≡ Some (told_text (InvalidClaimFormat (unwrap_or (slice_get claim_names (place a b c d e)) [])))
malformed true b c d e = refl
malformed false true c d e = refl
malformed false false true d e = refl
malformed false false false true e = refl
malformed false false false false true = refl
malformed false false false false false = refl

pub kind_texts : (k : Kind) → status_text (number k) ≡ Some (told_text (kind_part k))
kind_texts InvalidToken = refl
kind_texts InvalidSignature = refl
kind_texts InvalidEcdsaKey = refl
kind_texts InvalidEddsaKey = refl
kind_texts RsaFailedSigning = refl
kind_texts InvalidAlgorithmName = refl
kind_texts UnsupportedAlgorithm = refl
kind_texts InvalidKeyFormat = refl
kind_texts ExpiredSignature = refl
kind_texts InvalidIssuer = refl
kind_texts InvalidAudience = refl
kind_texts InvalidSubject = refl
kind_texts ImmatureSignature = refl
kind_texts InvalidAlgorithm = refl
kind_texts MissingAlgorithm = refl
kind_texts (MissingRequiredClaim n) = missing (bytes_eq n (codes "exp")) (bytes_eq n (codes "nbf"))
    (bytes_eq n (codes "aud")) (bytes_eq n (codes "iss")) (bytes_eq n (codes "sub"))
kind_texts (InvalidClaimFormat n) = malformed (bytes_eq n (codes "exp")) (bytes_eq n (codes "nbf"))
    (bytes_eq n (codes "aud")) (bytes_eq n (codes "iss")) (bytes_eq n (codes "sub"))
kind_texts (InvalidRsaKey message) = refl
kind_texts (Signing message) = refl
kind_texts (Provider message) = refl
kind_texts Base64 = refl
kind_texts Json = refl
kind_texts Utf8 = refl
kind_texts OutOfMemory = refl
kind_texts ClockBeforeEpoch = refl
kind_texts InvalidCrit = refl
kind_texts NoKey = refl
