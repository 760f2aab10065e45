-- The exit status and what is written to standard output, for `verify` and `sign`.
use Rattle.std.specs.Prelude.{◌≡◌, ◌⊎◌, ℕ, List, [], ◌∷◌, ◌++◌, Option, Some, false}
use Rattle.serde_json.specs.Data.{Data}
use Rattle.serde_json.specs.Written.{compact_text, has_float}
use Rattle.jwt_base.specs.Kind.{Kind}
use Rattle.jwt_base.specs.declared.algorithms.AlgorithmFamily.TheVariants.{Hmac}
use Rattle.jwt_header.specs.Header.{header_value}
use Rattle.jwt_header.specs.declared.header.Header.{Header}
use Rattle.jwt_validation.specs.Options.{Options}
use Rattle.jsonwebtoken.specs.ByHmac.{encoding_by_hmac}
use Rattle.jsonwebtoken.specs.Issue.{Issue, Written, IsIssued, encode_order, issue_tests}
use Rattle.jsonwebtoken.specs.Order.{Passes, FailsFirst}
use Rattle.jsonwebtoken.specs.Tests.{Contents}
use Rattle.jwt_command.specs.Accepted.{IsAccepted, IsTokenRefusal}
use Rattle.jwt_verifier.specs.declared.keys.Keys.{Keys}
use Rattle.jwt_findings.specs.Escapes.{escaped}
use Rattle.jwt_findings.specs.declared.refusals.TokenRefusal.{TokenRefusal}
use Rattle.jwt_command.specs.declared.verify.OutputForm.{OutputForm}
use Rattle.jwt_command.specs.declared.verify.OutputForm.TheVariants.{Claims, HeaderAndClaims, Json, Line}

-- a value's JSON text and a newline; for a value with a float, this says nothing
abbrev pub IsLineOf : Data → List ℕ → Type 0
IsLineOf value text = has_float value ≡ false → text ≡ compact_text value ++ 10 ∷ []

-- a value's JSON text, with the characters that are not seen escaped, and a newline; for a value with a float, this says
-- nothing
abbrev pub IsSeenLineOf : Data → List ℕ → Type 0
IsSeenLineOf value text = has_float value ≡ false → text ≡ escaped (compact_text value) ++ 10 ∷ []

-- the header's JSON text, with the characters that are not seen escaped, and a newline
abbrev pub IsHeaderLine : Header → List ℕ → Type 0
IsHeaderLine header text = (value : Data) × (header_value header ≡ Some value)
    × (text ≡ escaped (compact_text value) ++ 10 ∷ [])

-- the output for an accepted token; of one line of JSON, this says nothing
abbrev pub IsAcceptedText : OutputForm → Header → Data → List ℕ → Type 0
IsAcceptedText Claims header claims output = IsSeenLineOf claims output
IsAcceptedText HeaderAndClaims header claims output =
    (first second : List ℕ) × IsHeaderLine header first × IsSeenLineOf claims second
    × (output ≡ first ++ second)
IsAcceptedText Json header claims output = Unit {0}
IsAcceptedText Line header claims output = Unit {0}

-- of a refused token nothing is written, unless it is one line of JSON
abbrev pub IsRefusedText : OutputForm → List ℕ → Type 0
IsRefusedText Claims output = output ≡ []
IsRefusedText HeaderAndClaims output = output ≡ []
IsRefusedText Json output = Unit {0}
IsRefusedText Line output = Unit {0}

-- status 0 for a token that is accepted, and 1 for one that is refused
abbrev pub IsVerdict : List ℕ → Keys → Options → ℕ → Option (List ℕ) → ℕ → Type 0
IsVerdict token keys options time typ status =
    ((t : Contents) × IsAccepted token keys options time typ t × (status ≡ 0))
    ⊎ ((reason : TokenRefusal) × IsTokenRefusal token keys options time typ reason × (status ≡ 1))

-- Status 0 and the claims of a token that is accepted, or status 1 and nothing of one that is refused.
abbrev pub IsVerifyAnswer : List ℕ → Keys → Options → ℕ → Option (List ℕ) → OutputForm → ℕ → List ℕ → Type 0
IsVerifyAnswer token keys options time typ form status output =
    ((t : Contents) × IsAccepted token keys options time typ t × (status ≡ 0)
    × IsAcceptedText form t.header t.payload_value output)
    ⊎ ((reason : TokenRefusal) × IsTokenRefusal token keys options time typ reason
    × (status ≡ 1) × IsRefusedText form output)

-- a token of these claims under this header, signed with HMAC and a secret (RFC 7518 section 3.2)
abbrev pub signing : Header → Data → List ℕ → Issue
signing header claims secret =
    encoding_by_hmac header (Some claims) (record { family = Hmac; bytes = secret })

-- status 0, the token and a newline (RFC 7515 section 7.1); or status 1 and nothing, if a test of `encode` fails
abbrev pub IsSignAnswer : Header → Data → List ℕ → ℕ → List ℕ → Type 0
IsSignAnswer header claims secret status output =
    ((t : Written) × Passes (issue_tests (signing header claims secret)) encode_order t
    × ((token : List ℕ) × IsIssued (signing header claims secret) t token
    × (status ≡ 0) × (output ≡ token ++ 10 ∷ [])))
    ⊎ ((k : Kind) × FailsFirst (issue_tests (signing header claims secret)) encode_order k
    × (status ≡ 1) × (output ≡ []))
