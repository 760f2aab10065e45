-- The tests of a token, each a sentence of RFC 7515, 7517 or 7519, and the orders that the calls make them in.
use Rattle.std.specs.Prelude.{◌≡◌, ◌⊎◌, ℕ, List, [], ◌∷◌, ◌++◌, Option, Some, None, Contains, All, IsSome, find}
use Rattle.std.specs.Prelude.{option_and_then}
use Rattle.serde_json.specs.Data.{Data}
use Rattle.serde_json.specs.Find.{as_object}
use Rattle.jwt_base.specs.Algorithm.{family_of, key_algorithm_of}
use Rattle.jwt_base.specs.Kind.{Kind}
use Rattle.jwt_base.specs.Kind as kind
use Rattle.jwt_base.specs.Base64Url.{IsPart}
use Rattle.jwt_base.specs.JsonText.{IsJson}
use Rattle.jwt_base.specs.declared.algorithms.Algorithm.{Algorithm}
use Rattle.jwt_keys.specs.Jwk.{has_id}
use Rattle.jwt_keys.specs.declared.jwk.Jwk.{Jwk}
use Rattle.jwt_keys.specs.Key.{Key}
use Rattle.jwt_keys.specs.KeyOfJwk.{IsKeyOf, refusal_of}
use Rattle.jwt_validation.specs.ClaimRules.{RulesHold, IsRuleFault}
use Rattle.jsonwebtoken.specs.Crit.{IsUnderstood}
use Rattle.jwt_header.specs.Header.{ReadsHeader}
use Rattle.jwt_validation.specs.Options.{Options, default_options}
use Rattle.jsonwebtoken.specs.Order.{Tests}
use Rattle.jwt_header.specs.declared.header.Header.{Header}
pub use Rattle.jsonwebtoken.specs.declared.refusal.Test.{Test}
pub use Rattle.jsonwebtoken.specs.declared.refusal.Test.TheVariants.{HasThreeParts, HeaderIsBase64url, HeaderIsJson}
pub use Rattle.jsonwebtoken.specs.declared.refusal.Test.TheVariants.{HeaderIsValid, CritIsUnderstood, KeyIsFound}
pub use Rattle.jsonwebtoken.specs.declared.refusal.Test.TheVariants.{KeyAlgMatches, KeyIsUsable}
pub use Rattle.jsonwebtoken.specs.declared.refusal.Test.TheVariants.{AlgorithmsAreConfigured, AlgorithmIsAllowed}
pub use Rattle.jsonwebtoken.specs.declared.refusal.Test.TheVariants.{KeyFitsAlgorithm, AlgorithmsShareFamily, SignatureIsBase64url}
pub use Rattle.jsonwebtoken.specs.declared.refusal.Test.TheVariants.{SignatureIsAccepted, PayloadIsBase64url, PayloadIsJson}
pub use Rattle.jsonwebtoken.specs.declared.refusal.Test.TheVariants.{ClaimsMatchType, ClaimsAreAnObject, ClaimsAreValid}

-- ---- a token

-- `.`
abbrev pub dot : ℕ
dot = 46

-- the three parts of a token
pub record Parts : Type 0 where
  pub header : List ℕ
  pub payload : List ℕ
  pub signature : List ℕ

-- a token: one text, or its three parts
pub data Token : Type 0 where
  Compact : List ℕ → Token
  Separate : Parts → Token

-- the text of three parts
abbrev pub text_of_parts : Parts → List ℕ
text_of_parts p = p.header ++ dot ∷ (p.payload ++ dot ∷ p.signature)

-- The text is the three parts with a dot between each two, and neither of the last two parts holds a dot
-- (RFC 7515 section 7.1).
pub record ArePartsOf (text : List ℕ) (parts : Parts) : Type 0 where
  pub joined : text ≡ text_of_parts parts
  pub payload : ¬ Contains parts.payload dot
  pub signature : ¬ Contains parts.signature dot

abbrev pub HasParts : Token → Parts → Type 0
HasParts (Compact text) p = ArePartsOf text p
HasParts (Separate q) p = p ≡ q

-- the message that is signed: header part, dot, payload part (RFC 7515 section 5.1)
abbrev pub message_of : Parts → List ℕ
message_of p = p.header ++ dot ∷ p.payload

-- ---- a call

-- where the key comes from: it is given, or the header names it in a set
pub data KeySource : Type 0 where
  Given : Key → KeySource
  InSet : List Jwk → KeySource

-- the keys that a header can name
abbrev pub set_of : KeySource → List Jwk
set_of (Given k) = []
set_of (InSet ks) = ks

-- the first key with the id that the header has (RFC 7515 section 4.1.4, RFC 7517 section 4.5)
abbrev pub named_key : List Jwk → Header → Option Jwk
named_key ks h = option_and_then (λ kid. find (has_id kid) ks) h.kid

-- the key is for every algorithm, or for this one (RFC 7517 section 4.4)
abbrev pub AgreesWith : Algorithm → Jwk → Type 0
AgreesWith a k =
    (k.common.key_algorithm ≡ None) ⊎ (k.common.key_algorithm ≡ Some (key_algorithm_of a))

-- the input of a call: its arguments, the provider's results, and how claims are read
pub record Call (T : Type 0) : Type 1 where
  pub token : Token
  pub keys : KeySource
  pub options : Options
  pub time : ℕ
  pub refusal : Algorithm → Key → Option Kind
  pub accepts : Algorithm → Key → List ℕ → List ℕ → Type 0
  pub reads : Data → T → Type 0

-- ---- the tests

-- the things that the tests speak of
pub record Contents : Type 0 where
  pub parts : Parts
  pub header_bytes : List ℕ
  pub header_value : Data
  pub header : Header
  pub jwk : Jwk
  pub jwk_key : Key
  pub signature_bytes : List ℕ
  pub payload_bytes : List ℕ
  pub payload_value : Data

-- the verification key: the one that is given, or that of the JSON Web Key which the header names
abbrev pub key_of : KeySource → Key → Key
key_of (Given k) named = k
key_of (InSet ks) named = named

module _ {T : Type 0} (call : Call T) where
  -- the condition of each test
  abbrev pub Condition : Test → Contents → Type 0
  -- RFC 7515 section 7.1
  Condition HasThreeParts t = HasParts call.token t.parts
  -- RFC 7515 sections 2 and 5.2
  Condition HeaderIsBase64url t = IsPart t.parts.header t.header_bytes
  -- RFC 7515 section 5.2
  Condition HeaderIsJson t = IsJson t.header_bytes t.header_value
  -- RFC 7515 section 4.1
  Condition HeaderIsValid t = ReadsHeader t.header_value t.header
  -- RFC 7515 section 4.1.11
  Condition CritIsUnderstood t = IsUnderstood call.options.understood t.header
  -- RFC 7515 section 4.1.4, RFC 7517 section 4.5
  Condition KeyIsFound t = named_key (set_of call.keys) t.header ≡ Some t.jwk
  -- RFC 7517 section 4.4
  Condition KeyAlgMatches t = AgreesWith t.header.alg t.jwk
  -- RFC 7518 section 6, RFC 8037 section 2
  Condition KeyIsUsable t = IsKeyOf t.jwk.algorithm t.jwk_key
  -- RFC 8725 section 3.1
  Condition AlgorithmsAreConfigured t = ¬ (call.options.algorithms ≡ [])
  -- RFC 8725 section 3.1
  Condition AlgorithmIsAllowed t = Contains call.options.algorithms t.header.alg
  -- RFC 7515 section 4.1.1
  Condition KeyFitsAlgorithm t = call.refusal t.header.alg (key_of call.keys t.jwk_key) ≡ None
  -- RFC 8725 section 3.1
  Condition AlgorithmsShareFamily t =
      All (λ a. family_of a ≡ family_of t.header.alg) call.options.algorithms
  -- RFC 7515 sections 2 and 5.2
  Condition SignatureIsBase64url t = IsPart t.parts.signature t.signature_bytes
  -- RFC 7515 section 5.2
  Condition SignatureIsAccepted t =
      call.accepts t.header.alg (key_of call.keys t.jwk_key) (message_of t.parts) t.signature_bytes
  -- RFC 7515 sections 2 and 5.2
  Condition PayloadIsBase64url t = IsPart t.parts.payload t.payload_bytes
  -- RFC 7519 section 7.2
  Condition PayloadIsJson t = IsJson t.payload_bytes t.payload_value
  -- RFC 7519 section 4
  Condition ClaimsMatchType t = (c : T) × call.reads t.payload_value c
  -- RFC 7519 section 7.2
  Condition ClaimsAreAnObject t = IsSome (as_object t.payload_value)
  -- RFC 7519 section 4.1
  Condition ClaimsAreValid t = RulesHold call.options t.payload_value call.time

  -- the kinds of a failed test
  abbrev pub HasKind : Test → Contents → Kind → Type 0
  HasKind HasThreeParts t k = k ≡ kind.InvalidToken
  HasKind HeaderIsBase64url t k = k ≡ kind.Base64
  HasKind HeaderIsJson t k = k ≡ kind.Json
  HasKind HeaderIsValid t k = k ≡ kind.Json
  HasKind CritIsUnderstood t k = k ≡ kind.InvalidCrit
  HasKind KeyIsFound t k = k ≡ kind.NoKey
  HasKind KeyAlgMatches t k = k ≡ kind.InvalidAlgorithm
  HasKind KeyIsUsable t k = k ≡ refusal_of t.jwk.algorithm
  HasKind AlgorithmsAreConfigured t k = k ≡ kind.MissingAlgorithm
  HasKind AlgorithmIsAllowed t k = k ≡ kind.InvalidAlgorithm
  HasKind KeyFitsAlgorithm t k = call.refusal t.header.alg (key_of call.keys t.jwk_key) ≡ Some k
  HasKind AlgorithmsShareFamily t k = k ≡ kind.InvalidAlgorithm
  HasKind SignatureIsBase64url t k = k ≡ kind.Base64
  HasKind SignatureIsAccepted t k = k ≡ kind.InvalidSignature
  HasKind PayloadIsBase64url t k = k ≡ kind.Base64
  HasKind PayloadIsJson t k = k ≡ kind.Json
  HasKind ClaimsMatchType t k = k ≡ kind.Json
  HasKind ClaimsAreAnObject t k = k ≡ kind.Json
  HasKind ClaimsAreValid t k = IsRuleFault call.options t.payload_value call.time k

  -- the tests of a token
  abbrev pub token_tests : Tests Test Contents
  token_tests = record { condition = Condition; has_kind = HasKind }

-- ---- the orders

abbrev pub header_tests : List Test
header_tests = HeaderIsBase64url ∷ HeaderIsJson ∷ HeaderIsValid ∷ []

-- the tests of the header, which come first in every call that verifies, once the parts are found
abbrev pub opening_tests : List Test
opening_tests = header_tests ++ CritIsUnderstood ∷ []

abbrev pub key_tests : List Test
key_tests = KeyIsFound ∷ KeyAlgMatches ∷ KeyIsUsable ∷ []

abbrev pub algorithm_tests : List Test
algorithm_tests = AlgorithmsAreConfigured ∷ AlgorithmIsAllowed ∷ KeyFitsAlgorithm ∷ AlgorithmsShareFamily ∷ []

abbrev pub jws_algorithm_tests : List Test
jws_algorithm_tests = KeyFitsAlgorithm ∷ AlgorithmsAreConfigured ∷ AlgorithmsShareFamily ∷ AlgorithmIsAllowed ∷ []

abbrev pub signature_tests : List Test
signature_tests = SignatureIsBase64url ∷ SignatureIsAccepted ∷ []

abbrev pub payload_tests : List Test
payload_tests = PayloadIsBase64url ∷ PayloadIsJson ∷ ClaimsMatchType ∷ []

abbrev pub claim_tests : List Test
claim_tests = payload_tests ++ ClaimsAreAnObject ∷ ClaimsAreValid ∷ []

-- the tests of the signature and then of the claims, which come last in every call that verifies
abbrev pub verifying_tests : List Test
verifying_tests = signature_tests ++ claim_tests

abbrev pub header_order : List Test
header_order = HasThreeParts ∷ header_tests

-- the tests of a token of which the bytes of one part are asked for
abbrev pub header_bytes_order : List Test
header_bytes_order = HasThreeParts ∷ HeaderIsBase64url ∷ []

abbrev pub payload_bytes_order : List Test
payload_bytes_order = HasThreeParts ∷ PayloadIsBase64url ∷ []

-- the tests of a token before its signature is checked elsewhere
abbrev pub signed_order : List Test
signed_order = header_order ++ SignatureIsBase64url ∷ []

abbrev pub insecure_order : List Test
insecure_order = header_order ++ payload_tests

abbrev pub insecure_claims_order : List Test
insecure_claims_order = HasThreeParts ∷ payload_tests

abbrev pub decode_order : List Test
decode_order = HasThreeParts ∷ opening_tests ++ algorithm_tests ++ verifying_tests

abbrev pub jws_order : List Test
jws_order = HasThreeParts ∷ opening_tests ++ jws_algorithm_tests ++ verifying_tests

abbrev pub set_order : List Test
set_order = HasThreeParts ∷ opening_tests ++ key_tests ++ algorithm_tests ++ verifying_tests

-- ---- the calls

-- a call that verifies, by the results of a provider and by how claims are read
abbrev pub verifying_call : {T : Type 0} → Token → KeySource → Options → ℕ
    → (Algorithm → Key → Option Kind) → (Algorithm → Key → List ℕ → List ℕ → Type 0)
    → (Data → T → Type 0) → Call T
verifying_call token keys options time refusal accepts reads = record {
  token = token;
  keys = keys;
  options = options;
  time = time;
  refusal = refusal;
  accepts = accepts;
  reads = reads;
}

-- a call that verifies nothing: its tests do not depend on the arguments that it does not have
abbrev pub insecure_call : {T : Type 0} → List ℕ → (Data → T → Type 0) → Call T
insecure_call text reads =
    verifying_call (Compact text) (InSet []) (default_options []) 0
    (λ _ _. None) (λ _ _ _ _. ⊥) reads

-- a call that reads no claims either
abbrev pub header_call : List ℕ → Call (Unit {0})
header_call text = insecure_call text (λ _ _. ⊥)
