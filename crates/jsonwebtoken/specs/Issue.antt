-- The tests of a token that is to be issued, the orders that the calls make them in, and its text (RFC 7515 section 7.1).
use Rattle.std.specs.Prelude.{◌≡◌, ◌≤◌, ℕ, List, [], ◌∷◌, ◌++◌, Option, Some, None, false}
use Rattle.serde_json.specs.Data.{Data, depth}
use Rattle.serde_json.specs.Read.{max_depth}
use Rattle.serde_json.specs.Written.{compact_text, has_float}
use Rattle.base64.specs.GeneralPurpose.{IsBytes}
use Rattle.base64.specs.Rfc4648.{encode_symbols}
use Rattle.jwt_base.specs.Algorithm.{family_of}
use Rattle.jwt_base.specs.Base64Url.{IsPart, url_characters}
use Rattle.jwt_base.specs.Kind.{Kind}
use Rattle.jwt_base.specs.Kind as kind
use Rattle.jwt_base.specs.declared.algorithms.Algorithm.{Algorithm}
use Rattle.jwt_keys.specs.Key.{SecretKey, Key}
use Rattle.jwt_header.specs.Header.{header_value}
use Rattle.jwt_header.specs.HeaderWritten.{normal_header}
use Rattle.jwt_header.specs.declared.header.Header.{Header}
use Rattle.jsonwebtoken.specs.Order.{Tests, Passes}
use Rattle.jsonwebtoken.specs.Tests.{dot, Parts, message_of, text_of_parts, Test, HasThreeParts, SignatureIsBase64url}
use Rattle.jsonwebtoken.specs.Tests.{PayloadIsBase64url, PayloadIsJson, header_tests, Contents, token_tests, header_call}

-- ---- a call

-- the claims of a token: none, or those that are written as this value, if they can be written
pub data Payload : Type 0 where
  NoClaims : Payload
  WrittenAs : Option Data → Payload

abbrev pub payload_of : Option (Option Data) → Payload
payload_of None = NoClaims
payload_of (Some w) = WrittenAs w

-- the input of a call: its arguments, and the provider's results
pub record Issue : Type 1 where
  pub header : Header
  pub payload : Payload
  pub key : SecretKey
  pub signer_refusal : Algorithm → SecretKey → Option Kind
  pub sign_refusal : Algorithm → SecretKey → List ℕ → Option Kind
  pub signs : Algorithm → SecretKey → List ℕ → List ℕ → Type 0

-- ---- the tests

pub data IssueTest : Type 0 where
  KeyIsOfFamily : IssueTest
  SignerIsMade : IssueTest
  HeaderIsWritten : IssueTest
  ClaimsAreWritten : IssueTest
  MessageIsSigned : IssueTest

-- the values that the tests speak of: that of the header, and that of the claims if there are any
pub record Written : Type 0 where
  pub header_value : Data
  pub claims_value : Option Data

-- the claims are written as this value, in which no float stands (RFC 7519 section 7.1)
abbrev pub AreWritten : Payload → Option Data → Type 0
AreWritten NoClaims v = v ≡ None
AreWritten (WrittenAs w) v = (d : Data) × (v ≡ Some d) × (w ≡ Some d) × (has_float d ≡ false)

-- the part that stands for a value's compact text (RFC 7515 section 2)
abbrev pub part_of : Data → List ℕ
part_of d = encode_symbols url_characters (compact_text d)

-- the payload part: without claims it is empty (RFC 7515 section 5.1)
abbrev pub payload_part : Option Data → List ℕ
payload_part None = []
payload_part (Some d) = part_of d

-- the message that is signed: header part, dot, payload part (RFC 7515 section 5.1)
abbrev pub message_to_sign : Written → List ℕ
message_to_sign t = part_of t.header_value ++ dot ∷ payload_part t.claims_value

module _ (issue : Issue) where
  -- the condition of each test (RFC 7515 sections 4.1.1 and 5.1, RFC 7519 section 7.1)
  abbrev pub IssueCondition : IssueTest → Written → Type 0
  IssueCondition KeyIsOfFamily t = issue.key.family ≡ family_of issue.header.alg
  IssueCondition SignerIsMade t = issue.signer_refusal issue.header.alg issue.key ≡ None
  IssueCondition HeaderIsWritten t = header_value issue.header ≡ Some t.header_value
  IssueCondition ClaimsAreWritten t = AreWritten issue.payload t.claims_value
  IssueCondition MessageIsSigned t =
      issue.sign_refusal issue.header.alg issue.key (message_to_sign t) ≡ None

  -- the kinds of a failed test
  abbrev pub IssueKind : IssueTest → Written → Kind → Type 0
  IssueKind KeyIsOfFamily t k = k ≡ kind.InvalidAlgorithm
  IssueKind SignerIsMade t k = issue.signer_refusal issue.header.alg issue.key ≡ Some k
  IssueKind HeaderIsWritten t k = k ≡ kind.Json
  IssueKind ClaimsAreWritten t k = k ≡ kind.Json
  IssueKind MessageIsSigned t k =
      issue.sign_refusal issue.header.alg issue.key (message_to_sign t) ≡ Some k

  -- the tests of a token that is to be issued
  abbrev pub issue_tests : Tests IssueTest Written
  issue_tests = record { condition = IssueCondition; has_kind = IssueKind }

  -- The parts of an issued token: those of the header's and of the claims' text, and that of a
  -- signature which the provider may return for the two (RFC 7515 sections 5.1 and 7.1).
  pub record AreIssued (t : Written) (p : Parts) : Type 0 where
    pub header : p.header ≡ part_of t.header_value
    pub payload : p.payload ≡ payload_part t.claims_value
    pub bytes : List ℕ
    pub signature : IsPart p.signature bytes
    pub signed : issue.signs issue.header.alg issue.key (message_of p) bytes

  -- the text of an issued token (RFC 7515 section 7.1, RFC 7519 section 7.1)
  abbrev pub IsIssued : Written → List ℕ → Type 0
  IsIssued t x = (p : Parts) × (x ≡ text_of_parts p) × AreIssued t p

-- ---- the orders

-- the order of `encode` (RFC 7515 section 5.1, RFC 7519 section 7.1)
abbrev pub encode_order : List IssueTest
encode_order =
    KeyIsOfFamily ∷ SignerIsMade ∷ HeaderIsWritten ∷ ClaimsAreWritten ∷ MessageIsSigned ∷ []

-- the order of `jws::encode` (RFC 7515 section 5.1, RFC 7519 section 7.1)
abbrev pub jws_encode_order : List IssueTest
jws_encode_order =
    KeyIsOfFamily ∷ HeaderIsWritten ∷ ClaimsAreWritten ∷ SignerIsMade ∷ MessageIsSigned ∷ []

-- ---- the calls

abbrev pub issuing : Header → Payload → SecretKey → (Algorithm → SecretKey → Option Kind)
    → (Algorithm → SecretKey → List ℕ → Option Kind)
    → (Algorithm → SecretKey → List ℕ → List ℕ → Type 0) → Issue
issuing header payload key signer_refusal sign_refusal signs = record {
  header = header;
  payload = payload;
  key = key;
  signer_refusal = signer_refusal;
  sign_refusal = sign_refusal;
  signs = signs;
}

-- ---- reading an issued token

-- the tests that ask neither for a validation nor for a key nor for a type of claims
abbrev pub issued_tests : List Test
issued_tests = HasThreeParts ∷ header_tests ++ SignatureIsBase64url ∷ PayloadIsBase64url ∷ PayloadIsJson ∷ []

-- every signature that the issuer's key makes is accepted with this one
abbrev pub AcceptsOf : Issue → (Algorithm → Key → List ℕ → List ℕ → Type 0) → Key → Type 0
AcceptsOf issue accepts key = (m s : List ℕ) → IsBytes m → IsBytes s
    → issue.signs issue.header.alg issue.key m s → accepts issue.header.alg key m s

-- The text passes these tests with the header's normal form and the claims' value, and its
-- signature is accepted with each key that accepts the signatures of the issuer's key.
pub record IsReadBack (issue : Issue) (accepts : Algorithm → Key → List ℕ → List ℕ → Type 0)
    (v : Data) (x : List ℕ) : Type 0 where
  pub contents : Contents
  pub passed : Passes (token_tests (header_call x)) issued_tests contents
  pub header : contents.header ≡ normal_header issue.header
  pub claims : contents.payload_value ≡ v
  pub accepted : (key : Key) → AcceptsOf issue accepts key
      → accepts contents.header.alg key (message_of contents.parts) contents.signature_bytes

-- so it is if the header and the claims nest no deeper than the reader of JSON allows
abbrev pub ReadsBack : Issue → (Algorithm → Key → List ℕ → List ℕ → Type 0)
    → Written → List ℕ → Type 0
ReadsBack issue accepts t x = (v : Data) → t.claims_value ≡ Some v
    → depth t.header_value ≤ max_depth → depth v ≤ max_depth → IsReadBack issue accepts v x
