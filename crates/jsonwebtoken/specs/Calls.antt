-- The calls that the contracts speak of: the arguments of an entry point, with the relations of its
-- provider and its type of claims, and how its result shows the contents of a token.
use Rattle.std.specs.Prelude.{◌≡◌, ℕ, List}
use Rattle.jwt_base.specs.declared.json.claims.Claims.{Ghosts as ClaimsOf}
use Rattle.jwt_header.specs.declared.header.Header.{Header}
use Rattle.jwt_keys.specs.Key.{Key}
use Rattle.jwt_keys.specs.declared.provider.CryptoProvider.{Ghosts as ProviderOf}
use Rattle.jwt_keys.specs.declared.jwk.Jwk.{Jwk}
use Rattle.jwt_validation.specs.OptionsOf.{options_of}
use Rattle.jwt_validation.specs.declared.validation.Validation.{Validation}
use Rattle.jsonwebtoken.specs.Tests.{Call, Contents, Parts, Token, Compact, Separate, KeySource, Given, InSet}
use Rattle.jsonwebtoken.specs.Tests.{message_of, verifying_call}
use Rattle.jsonwebtoken.specs.declared.decoding.TokenData.{TokenData}
use Rattle.jsonwebtoken.specs.declared.by_verdict.SignedPart.{SignedPart}

-- ---- the calls

module _ {P S V T : Type 0} (provider : ProviderOf P S V) (claims : ClaimsOf T) where
  -- a call that verifies a token at a time
  abbrev pub verifying : P → Token → KeySource → Validation → ℕ → Call T
  verifying p token keys validation time =
      verifying_call token keys (options_of validation) time
      (provider.verifier_refusal p) (provider.accepts p) claims.reads

  -- the call of `decode`
  abbrev pub decoding : P → List ℕ → Key → Validation → ℕ → Call T
  decoding p text key validation time = verifying p (Compact text) (Given key) validation time

  -- the call of `decode_with_set`
  abbrev pub decoding_by_set : P → List ℕ → List Jwk → Validation → ℕ → Call T
  decoding_by_set p text keys validation time =
      verifying p (Compact text) (InSet keys) validation time

  -- the call of `jws::decode`
  abbrev pub decoding_parts : P → Parts → Key → Validation → ℕ → Call T
  decoding_parts p parts key validation time =
      verifying p (Separate parts) (Given key) validation time

-- ---- how a result shows the contents

-- the header and the claims
abbrev pub Carries : {T : Type 0} → Call T → Contents → TokenData T → Type 0
Carries call t answer = (t.header ≡ answer.header) × call.reads t.payload_value answer.claims

-- the header alone
abbrev pub HasHeader : {T : Type 0} → Call T → Contents → Header → Type 0
HasHeader call t header = t.header ≡ header

-- the header, what is signed (RFC 7515 section 5.1), and the signature's bytes
abbrev pub HasSigned : {T : Type 0} → Call T → Contents → SignedPart → Type 0
HasSigned call t part = (t.header ≡ part.header)
    × (message_of t.parts ≡ part.message.now)
    × (t.signature_bytes ≡ part.signature.items)

-- the claims alone
abbrev pub HasClaims : {T : Type 0} → Call T → Contents → T → Type 0
HasClaims call t claims = call.reads t.payload_value claims
