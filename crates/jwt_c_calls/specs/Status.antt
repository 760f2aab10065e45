-- The form of a result for C: a status, a length and the bytes of a buffer.
use Rattle.std.specs.Prelude.{◌≡◌, ◌≤◌, ◌<◌, ◌+◌, ◌-◌, ◌==◌, ℕ, List, [], ◌∷◌, ◌++◌, length, drop, Option, Some, None}
use Rattle.std.specs.Prelude.{slice_get, unwrap_or, codes, min, if◌then◌else◌}
use Rattle.std.specs.Str.{bytes_eq}
use Rattle.jwt_base.specs.Algorithm.{all_algorithms}
use Rattle.jwt_base.specs.declared.algorithms.Algorithm.{Algorithm}
use Rattle.jwt_base.specs.Kind.{Kind, text_of, InvalidToken, InvalidSignature, InvalidEcdsaKey, InvalidEddsaKey}
use Rattle.jwt_base.specs.Kind.{RsaFailedSigning, InvalidAlgorithmName, UnsupportedAlgorithm, InvalidKeyFormat}
use Rattle.jwt_base.specs.Kind.{ExpiredSignature, InvalidIssuer, InvalidAudience, InvalidSubject, ImmatureSignature}
use Rattle.jwt_base.specs.Kind.{InvalidAlgorithm, MissingAlgorithm, MissingRequiredClaim, InvalidClaimFormat}
use Rattle.jwt_base.specs.Kind.{InvalidRsaKey, Signing, Provider, Base64, Json, Utf8, OutOfMemory, ClockBeforeEpoch}
use Rattle.jwt_base.specs.Kind.{InvalidCrit, NoKey}
use Rattle.jwt_further.specs.declared.FurtherFault.{FurtherFault}
use Rattle.jwt_further.specs.declared.FurtherFault.TheVariants as fault
use Rattle.jwt_c_calls.specs.declared.inputs.Input.{Input}
use Rattle.jwt_c_calls.specs.declared.inputs.Input.TheVariants as input

-- ---- statuses

-- the claims that statuses tell apart (RFC 7519 section 4.1)
abbrev pub claim_names : List (List ℕ)
claim_names = codes "exp" ∷ codes "nbf" ∷ codes "aud" ∷ codes "iss" ∷ codes "sub" ∷ []

-- The place of a name among them, and 19 of any other name. The places between are kept for more names.
abbrev pub claim_place : List ℕ → ℕ
claim_place name =
    if bytes_eq name (codes "exp") then 0
    else (if bytes_eq name (codes "nbf") then 1
    else (if bytes_eq name (codes "aud") then 2
    else (if bytes_eq name (codes "iss") then 3
    else (if bytes_eq name (codes "sub") then 4
    else 19))))

-- The status of a refusal of this kind: from 1 on for kinds without a claim, from 40 on for a required claim that is
-- missing, and from 60 on for a claim of another form. The numbers up to 39, 59 and 79 that no kind has are kept for more of each.
abbrev pub number : Kind → ℕ
number InvalidToken = 1
number InvalidSignature = 2
number InvalidEcdsaKey = 3
number InvalidEddsaKey = 4
number RsaFailedSigning = 5
number InvalidAlgorithmName = 6
number UnsupportedAlgorithm = 7
number InvalidKeyFormat = 8
number ExpiredSignature = 9
number InvalidIssuer = 10
number InvalidAudience = 11
number InvalidSubject = 12
number ImmatureSignature = 13
number InvalidAlgorithm = 14
number MissingAlgorithm = 15
number (InvalidRsaKey message) = 16
number (Signing message) = 17
number (Provider message) = 18
number Base64 = 19
number Json = 20
number Utf8 = 21
number OutOfMemory = 22
number ClockBeforeEpoch = 23
number InvalidCrit = 24
number NoKey = 25
number (MissingRequiredClaim claim) = 40 + claim_place claim
number (InvalidClaimFormat claim) = 60 + claim_place claim

-- a buffer is too small; a number has no text, or selects no part
abbrev pub buffer_too_small : ℕ
buffer_too_small = 100

abbrev pub unknown_number : ℕ
unknown_number = 102

-- a text does not describe the value that it must
abbrev pub input_status : Input → ℕ
input_status input.Options = 101
input_status input.Header = 104
input_status input.Claims = 105
input_status input.Key = 106
input_status input.Path = 101

-- a further rule that fails (RFC 7519 sections 4.1.3 and 4.1.6)
abbrev pub further_status : FurtherFault → ℕ
further_status fault.IssuedMalformed = number (InvalidClaimFormat (codes "iat"))
further_status fault.IssuedLater = number ImmatureSignature
further_status (fault.Missing at) = 59
further_status (fault.NotAText at) = 79
further_status fault.AudienceIsNoText = number (InvalidClaimFormat (codes "aud"))

-- the place of the claim's name in its option, from 1 on; the greatest number of 32 bits for `iat`, and 0 for `aud`
abbrev pub further_claim : FurtherFault → ℕ
further_claim fault.IssuedMalformed = 4294967295
further_claim fault.IssuedLater = 4294967295
further_claim (fault.Missing at) = min (at + 1) 4294967294
further_claim (fault.NotAText at) = min (at + 1) 4294967294
further_claim fault.AudienceIsNoText = 0

-- anyone can sign with a secret, or for a key
abbrev pub all_zero_secret : ℕ
all_zero_secret = 107

-- a handle holds no verifier, no keys, or already holds something
abbrev pub no_verifier : ℕ
no_verifier = 108

abbrev pub no_keys : ℕ
no_keys = 117

abbrev pub handle_in_use : ℕ
handle_in_use = 109

-- no key verifies with any of the algorithms of the options, or none with a `kid`
abbrev pub no_usable_key : ℕ
no_usable_key = 110

-- a token is longer than a verifier allows
abbrev pub token_too_long : ℕ
token_too_long = 111

-- an object has no member of a name
abbrev pub no_member : ℕ
no_member = 112

-- a secret is the text of a key of another kind
abbrev pub key_as_secret : ℕ
key_as_secret = 113

-- a key is for another use than signatures
abbrev pub not_for_signatures : ℕ
not_for_signatures = 115

-- a text is a certificate
abbrev pub is_certificate : ℕ
is_certificate = 116

-- no algorithm is verified with a key
abbrev pub unfit_key : ℕ
unfit_key = 118

-- The text of a status is that of its kind, without the colon that announces what no status tells: a message, or the
-- claim of another name than the five. In C a provider's kind is that of a private key alone.
abbrev pub told_text : Kind → List ℕ
told_text (InvalidRsaKey message) = codes "RSA key invalid"
told_text (Signing message) = codes "Signing failed"
told_text (Provider message) = codes "Private key, and not a public one"
told_text (MissingRequiredClaim []) = codes "Missing required claim"
told_text (InvalidClaimFormat []) = codes "Invalid format for claim"
told_text k = text_of k

-- the status of a kind, with its text
abbrev pub of_kind : Kind → ℕ × List ℕ
of_kind k = (number k, told_text k)

-- the statuses with their texts
abbrev pub statuses : List (ℕ × List ℕ)
statuses = (0, codes "OK")
    ∷ of_kind InvalidToken ∷ of_kind InvalidSignature ∷ of_kind InvalidEcdsaKey ∷ of_kind InvalidEddsaKey
    ∷ of_kind RsaFailedSigning ∷ of_kind InvalidAlgorithmName ∷ of_kind UnsupportedAlgorithm
    ∷ of_kind InvalidKeyFormat ∷ of_kind ExpiredSignature ∷ of_kind InvalidIssuer ∷ of_kind InvalidAudience
    ∷ of_kind InvalidSubject ∷ of_kind ImmatureSignature ∷ of_kind InvalidAlgorithm ∷ of_kind MissingAlgorithm
    ∷ of_kind (InvalidRsaKey []) ∷ of_kind (Signing []) ∷ of_kind (Provider []) ∷ of_kind Base64
    ∷ of_kind Json ∷ of_kind Utf8 ∷ of_kind OutOfMemory ∷ of_kind ClockBeforeEpoch ∷ of_kind InvalidCrit
    ∷ of_kind NoKey
    ∷ of_kind (MissingRequiredClaim (codes "exp")) ∷ of_kind (MissingRequiredClaim (codes "nbf"))
    ∷ of_kind (MissingRequiredClaim (codes "aud")) ∷ of_kind (MissingRequiredClaim (codes "iss"))
    ∷ of_kind (MissingRequiredClaim (codes "sub")) ∷ of_kind (MissingRequiredClaim [])
    ∷ of_kind (InvalidClaimFormat (codes "exp")) ∷ of_kind (InvalidClaimFormat (codes "nbf"))
    ∷ of_kind (InvalidClaimFormat (codes "aud")) ∷ of_kind (InvalidClaimFormat (codes "iss"))
    ∷ of_kind (InvalidClaimFormat (codes "sub")) ∷ of_kind (InvalidClaimFormat [])
    ∷ (buffer_too_small, codes "Buffer too small")
    ∷ (input_status input.Options, codes "Invalid options")
    ∷ (unknown_number, codes "Unknown number")
    ∷ (input_status input.Header, codes "Invalid header")
    ∷ (input_status input.Claims, codes "Invalid claims")
    ∷ (input_status input.Key, codes "Invalid key")
    ∷ (all_zero_secret, codes "Secret is empty or all zeros")
    ∷ (no_verifier, codes "No verifier")
    ∷ (handle_in_use, codes "Handle already in use")
    ∷ (no_usable_key, codes "No key fits the algorithms")
    ∷ (token_too_long, codes "Token too long")
    ∷ (no_member, codes "No such member")
    ∷ (key_as_secret, codes "Secret is the text of a key")
    ∷ (not_for_signatures, codes "Key is not for signatures")
    ∷ (is_certificate, codes "Certificate, and not a key")
    ∷ (no_keys, codes "No keys")
    ∷ (unfit_key, codes "Key fits no algorithm")
    ∷ []

-- the text of a number in a table
abbrev pub text_in : ℕ → List (ℕ × List ℕ) → Option (List ℕ)
text_in n [] = None
text_in n (s ∷ rest) = if s.0 == n then Some s.1 else text_in n rest

-- the text of a status
abbrev pub status_text : ℕ → Option (List ℕ)
status_text n = text_in n statuses

-- the part of the claim's name that a status tells
abbrev pub claim_part : List ℕ → List ℕ
claim_part name = unwrap_or (slice_get claim_names (claim_place name)) []

-- The part of a kind that a status tells: of a claim's name one of the five, and nothing of the
-- string of other kinds.
abbrev pub kind_part : Kind → Kind
kind_part (MissingRequiredClaim claim) = MissingRequiredClaim (claim_part claim)
kind_part (InvalidClaimFormat claim) = InvalidClaimFormat (claim_part claim)
kind_part (InvalidRsaKey message) = InvalidRsaKey []
kind_part (Signing message) = Signing []
kind_part (Provider message) = Provider []
kind_part k = k

-- ---- status, length and buffer

-- These bytes are written: they stand at the front of the buffer, and the bytes after them are
-- unchanged. A buffer that is too small is unchanged. The length is that of the bytes either way.
pub record IsGiven (bytes : List ℕ) (status len : ℕ) (before after : List ℕ) : Type 0 where
  pub needs : len ≡ length bytes
  pub fits : length bytes ≤ length before
      → (status ≡ 0) × (after ≡ bytes ++ drop (length bytes) before)
  pub small : length before < length bytes → (status ≡ buffer_too_small) × (after ≡ before)

-- nothing is written, with this status
pub record IsKept (n status len : ℕ) (before after : List ℕ) : Type 0 where
  pub number : status ≡ n
  pub none : len ≡ 0
  pub room : after ≡ before

-- ---- algorithms

-- the algorithms by their numbers, from 1 on (RFC 7518 section 3.1, RFC 8037 section 3.1)
abbrev pub algorithm_numbered : ℕ → Option Algorithm
algorithm_numbered n = if n == 0 then None else slice_get all_algorithms (n - 1)

-- the version of the library, the `JWT_VERSION` of `packages/c/include/jwtproved.h`
abbrev pub version : List ℕ
version = codes "0.2.0"
