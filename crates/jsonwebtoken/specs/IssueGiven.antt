-- Tokens whose signature is made elsewhere: the message that is to be signed, and the token with a given signature.
use Rattle.std.specs.Prelude.{◌≡◌, ◌⊎◌, ◌≤◌, ℕ, List, [], ◌∷◌, ◌++◌, Option, None, Some, Result, IfOk, IfErr}
use Rattle.std.specs.Prelude.{MatchResult, string_bytes}
use Rattle.serde_json.specs.Data.{Data, depth}
use Rattle.serde_json.specs.Read.{max_depth}
use Rattle.jwt_base.specs.Algorithm.{family_of}
use Rattle.base64.specs.Rfc4648.{encode_symbols}
use Rattle.jwt_base.specs.Base64Url.{url_characters}
use Rattle.jwt_base.specs.KindOf.{kind_of, IsMemory}
use Rattle.jwt_base.specs.declared.errors.Error.{Error}
use Rattle.jwt_crypto.specs.GivenSignature.{GivenSignature, IsGiven, HasLength, signer_refusal_by, sign_refusal_by}
use Rattle.jwt_header.specs.HeaderWritten.{normal_header}
use Rattle.jwt_header.specs.declared.header.Header.{Header}
use Rattle.jsonwebtoken.specs.Issue.{Issue, IssueTest, HeaderIsWritten, ClaimsAreWritten, WrittenAs, Written}
use Rattle.jsonwebtoken.specs.Issue.{message_to_sign, issue_tests, encode_order, issuing, issued_tests}
use Rattle.jsonwebtoken.specs.Order.{Passes, FailsFirst}
use Rattle.jsonwebtoken.specs.Tests.{dot, message_of, Contents, token_tests, header_call}
use Rattle.jsonwebtoken.specs.declared.by_signature.SigningInput.{SigningInput}

-- the tests of `encode` that ask no key and no provider, in its order
abbrev pub signing_order : List IssueTest
signing_order = HeaderIsWritten ∷ ClaimsAreWritten ∷ []

-- the call of `signing_input`, of which no test asks a key or a provider: of a header, and of claims
-- that are written as this value, if they can be written
abbrev pub signing : Header → Option Data → Issue
signing header written =
    issuing header (WrittenAs written) (record { family = family_of header.alg; bytes = [] })
    (λ _ _. None) (λ _ _ _. None) (λ _ _ _ _. ⊥)

-- the header's algorithm, and the message that is to be signed (RFC 7515 section 5.1)
pub record IsSigningInput (header : Header) (t : Written) (s : SigningInput) : Type 0 where
  pub algorithm : s.algorithm ≡ header.alg
  pub message : string_bytes s.message ≡ message_to_sign t

-- the call of `encode` with the provider of a given signature and a key of its algorithm's family
abbrev pub encoding_by_signature : GivenSignature → Header → Option Data → Issue
encoding_by_signature g header written =
    issuing header (WrittenAs written)
    (record { family = family_of g.algorithm; bytes = [] })
    (signer_refusal_by g) (λ _ _. sign_refusal_by g) (λ _ _. IsGiven g)

-- the given message, a dot, and the part that stands for the given signature (RFC 7515 section 7.1)
abbrev pub token_of : GivenSignature → List ℕ
token_of g = g.message ++ dot ∷ encode_symbols url_characters g.signature

module _ (issue : Issue) (g : GivenSignature) where
  -- The header and the claims are written, as the given message; the header names the given algorithm, and the signature has
  -- a length that its signatures have (RFC 7515 section 5.1).
  pub record IsSignedElsewhere (t : Written) : Type 0 where
    pub tests : Passes (issue_tests issue) signing_order t
    pub algorithm : issue.header.alg ≡ g.algorithm
    pub message : message_to_sign t ≡ g.message
    pub length : HasLength g.algorithm g.signature

  -- The result of a call that is decided by a given signature, as `Decides` says it: values that the
  -- signature is for stand instead of values that pass every test, and the token is the only one.
  pub record DecidesGiven {R : Type 0} (bytes : R → List ℕ) (r : Result R Error) : Type 0 where
    pub issued : IfOk r (λ x. (t : Written) × IsSignedElsewhere t × (bytes x ≡ token_of g))
    pub exact : (t : Written) → IsSignedElsewhere t → MatchResult r (λ x. bytes x ≡ token_of g) IsMemory
    pub refused : IfErr r (λ e. IsMemory e ⊎ FailsFirst (issue_tests issue) encode_order (kind_of e))

  -- The text passes these tests with the header's normal form and the claims' value, and what is to
  -- be verified of it is the given signature of the given message (RFC 7515 section 5.2).
  pub record IsReadAsGiven (v : Data) (x : List ℕ) : Type 0 where
    pub contents : Contents
    pub passed : Passes (token_tests (header_call x)) issued_tests contents
    pub header : contents.header ≡ normal_header issue.header
    pub claims : contents.payload_value ≡ v
    pub message : message_of contents.parts ≡ g.message
    pub signature : contents.signature_bytes ≡ g.signature

  -- so it is if the header and the claims nest no deeper than the reader of JSON allows
  abbrev pub ReadsBackAsGiven : Written → List ℕ → Type 0
  ReadsBackAsGiven t x = (v : Data) → t.claims_value ≡ Some v
      → depth t.header_value ≤ max_depth → depth v ≤ max_depth → IsReadAsGiven v x
