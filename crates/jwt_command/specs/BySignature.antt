-- The status and the output of `sign` for a signature that another program makes.
use Rattle.std.specs.Prelude.{◌≡◌, ◌≢◌, ◌⊎◌, ◌+◌, ℕ, List, [], ◌∷◌, ◌++◌, Option, Some, None, length, false, option_map}
use Rattle.serde_json.specs.Data.{Data}
use Rattle.jwt_base.specs.Algorithm.{family_of}
use Rattle.jwt_base.specs.Claims.{IsValue}
use Rattle.jwt_base.specs.Kind.{Kind}
use Rattle.jwt_base.specs.declared.algorithms.Algorithm.{Algorithm}
use Rattle.jwt_base.specs.declared.algorithms.AlgorithmFamily.TheVariants.{Hmac}
use Rattle.jwt_crypto.specs.GivenSignature.{GivenSignature}
use Rattle.jwt_header.specs.declared.header.Header.{Header}
use Rattle.jwt_key_files.specs.EcdsaSignatures.{IsSignatureOf, IsSignatureRefused, number_length}
use Rattle.jwt_validation.specs.Options.{Options, default_options, no_texts}
use Rattle.jsonwebtoken.specs.Issue.{Written, encode_order, issue_tests, message_to_sign}
use Rattle.jsonwebtoken.specs.IssueGiven.{IsSignedElsewhere, encoding_by_signature, signing, signing_order, token_of}
use Rattle.jsonwebtoken.specs.Order.{Passes, FailsFirst}
use Rattle.jsonwebtoken.specs.Tests.{Contents, dot, insecure_call, insecure_order, token_tests}
use Rattle.jwt_verifier.specs.declared.keys.Keys.{Keys}
use Rattle.jwt_command.specs.Accepted.{IsRefusalIfAny}
use Rattle.jwt_findings.specs.declared.refusals.TokenRefusal.{TokenRefusal}

-- ---- what is to be signed

-- status 0 and the message, which no line end follows (RFC 7515 section 5.1); or status 1 and nothing, if a test of
-- `signing_input` fails
abbrev pub IsInputAnswer : Header → Data → ℕ → List ℕ → Type 0
IsInputAnswer header claims status output =
    ((t : Written) × Passes (issue_tests (signing header (Some claims))) signing_order t
    × (status ≡ 0) × (output ≡ message_to_sign t))
    ⊎ ((k : Kind) × FailsFirst (issue_tests (signing header (Some claims))) signing_order k
    × (status ≡ 1) × (output ≡ []))

-- ---- the token of a signature

-- header and claims of a signing input, as of a token without a signature; its algorithm is not one of a secret
abbrev pub IsUnsigned : (input : List ℕ) → Header → Data → Type 0
IsUnsigned input header claims =
    ((t : Contents) × Passes (token_tests (insecure_call (input ++ dot ∷ []) IsValue)) insecure_order t
    × (t.header ≡ header) × (claims ≡ t.payload_value))
    × (family_of header.alg ≢ Hmac)

-- The signature in a file. With ECDSA, bytes of another length than both numbers have are DER (RFC 3279 section 2.2.3) of
-- these (RFC 7518 section 3.4).
abbrev pub numbers_length : Algorithm → Option ℕ
numbers_length algorithm = option_map (λ size. size + size) (number_length algorithm)

abbrev pub IsSignatureFor : Algorithm → Option ℕ → (file signature : List ℕ) → Type 0
IsSignatureFor algorithm None file signature = signature ≡ file
IsSignatureFor algorithm (Some both) file signature =
    ((length file ≡ both) × (signature ≡ file))
    ⊎ ((length file ≢ both) × IsSignatureOf algorithm file signature)

abbrev pub IsSignatureIn : Algorithm → (file signature : List ℕ) → Type 0
IsSignatureIn algorithm file signature = IsSignatureFor algorithm (numbers_length algorithm) file signature

-- this signature of this message
abbrev pub given : Header → (input signature : List ℕ) → GivenSignature
given header input signature = record { algorithm = header.alg; message = input; signature = signature }

-- the token of the signature in the file, if header and claims are written as the signing input (RFC 7515 section 7.1)
abbrev pub IsTokenOf : Header → Data → (input file token : List ℕ) → Type 0
IsTokenOf header claims input file token =
    (signature : List ℕ) × IsSignatureIn header.alg file signature
    × (((t : Written) × IsSignedElsewhere (encoding_by_signature (given header input signature) header (Some claims))
    (given header input signature) t)
    × (token ≡ token_of (given header input signature)))

-- why there is no such token: the file has no signature, or a test of `encode` fails
abbrev pub IsNotTokenOf : Header → Data → (input file : List ℕ) → Kind → Type 0
IsNotTokenOf header claims input file k =
    IsSignatureRefused header.alg file k
    ⊎ ((signature : List ℕ) × IsSignatureIn header.alg file signature
    × FailsFirst (issue_tests (encoding_by_signature (given header input signature) header (Some claims))) encode_order k)

-- the options of which the algorithm alone is tested, and no claim
abbrev pub signature_options : Algorithm → Options
signature_options algorithm = record (default_options (algorithm ∷ [])) {
  required = no_texts;
  checks_exp = false;
  checks_aud = false;
}

-- why the keys, if there are any, do not accept the token, or nothing if they do
abbrev pub IsChecked : Option Keys → Algorithm → (token : List ℕ) → Option TokenRefusal → Type 0
IsChecked None algorithm token reason = reason ≡ None
IsChecked (Some keys) algorithm token reason = IsRefusalIfAny token keys (signature_options algorithm) 0 None reason

-- status 0, the token and a newline, if the keys accept it; or status 1 and nothing
abbrev pub IsTokenAnswer : Option Keys → Algorithm → (token : List ℕ) → ℕ → List ℕ → Type 0
IsTokenAnswer keys algorithm token status output =
    (IsChecked keys algorithm token None × (status ≡ 0) × (output ≡ token ++ 10 ∷ []))
    ⊎ (((reason : TokenRefusal) × IsChecked keys algorithm token (Some reason)) × (status ≡ 1) × (output ≡ []))

-- the same, of the header and the claims of a signing input; or status 1 and nothing, if there is no token of them
abbrev pub IsDataAnswer : Option Keys → Header → Data → (input file : List ℕ) → ℕ → List ℕ → Type 0
IsDataAnswer keys header claims input file status output =
    ((token : List ℕ) × IsTokenOf header claims input file token × IsTokenAnswer keys header.alg token status output)
    ⊎ ((k : Kind) × IsNotTokenOf header claims input file k × (status ≡ 1) × (output ≡ []))

abbrev pub IsAttached : (input file : List ℕ) → Option Keys → ℕ → List ℕ → Type 0
IsAttached input file keys status output =
    (header : Header) × (claims : Data) × IsUnsigned input header claims
    × IsDataAnswer keys header claims input file status output
