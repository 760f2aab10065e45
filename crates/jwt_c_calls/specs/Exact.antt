-- Tokens whose header and payload are signed byte for byte.
use Rattle.std.specs.Prelude.{◌≡◌, ◌∷◌, ◌++◌, ℕ, List}
use Rattle.serde_json.specs.Data.{Data}
use Rattle.jwt_base.specs.Base64Url.{IsPart}
use Rattle.jwt_base.specs.JsonText.{ReadsText}
use Rattle.jwt_header.specs.Header.{ReadsHeader}
use Rattle.jwt_header.specs.declared.header.Header.{Header}
use Rattle.jsonwebtoken.specs.Issue.{issued_tests}
use Rattle.jsonwebtoken.specs.Order.{Passes}
use Rattle.jsonwebtoken.specs.Tests.{dot, Contents, header_call, message_of, token_tests}
use Rattle.jwt_c_calls.specs.AsSigned.{HasUniqueNames}
use Rattle.jwt_c_calls.specs.Inputs.{ReadsClaimsText}

-- the text is JSON of a header (RFC 7515 section 4), and no object in it has a name twice
abbrev pub ReadsExactHeader : List ℕ → Header → Type 0
ReadsExactHeader text header = ReadsText ReadsHeader text header × HasUniqueNames text

-- the text is JSON of an object (RFC 7519 section 4), and no object in it has a name twice
abbrev pub ReadsExactPayload : List ℕ → Data → Type 0
ReadsExactPayload text value = ReadsClaimsText text value × HasUniqueNames text

-- the message of two parts, which stand for these bytes (RFC 7515 section 5.1)
pub record IsMessageOf (header payload message : List ℕ) : Type 0 where
  pub header_part : List ℕ
  pub payload_part : List ℕ
  pub header_is : IsPart header_part header
  pub payload_is : IsPart payload_part payload
  pub joined : message ≡ header_part ++ dot ∷ payload_part

-- the token of a message and of the part that stands for its signature (RFC 7515 section 7.1)
abbrev pub IsTokenOf : List ℕ → List ℕ → List ℕ → Type 0
IsTokenOf message signature token = (part : List ℕ) × IsPart part signature × (token ≡ message ++ dot ∷ part)

-- The token is read as this header, payload and signature, byte for byte, and what is to be verified of it is this message.
pub record IsReadBack (header payload message signature token : List ℕ) (h : Header) (claims : Data) : Type 0 where
  pub contents : Contents
  pub passed : Passes (token_tests (header_call token)) issued_tests contents
  pub header_bytes : contents.header_bytes ≡ header
  pub as_header : contents.header ≡ h
  pub payload_bytes : contents.payload_bytes ≡ payload
  pub as_claims : contents.payload_value ≡ claims
  pub signed : message_of contents.parts ≡ message
  pub signature_bytes : contents.signature_bytes ≡ signature
