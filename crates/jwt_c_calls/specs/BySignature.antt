-- The results of the calls for C that issue tokens whose signature is made elsewhere.
use Rattle.std.specs.Prelude.{◌≡◌, ◌⊎◌, ⊤, ℕ, List, Option, Some, None, MatchResult}
use Rattle.serde_json.specs.Data.{Data}
use Rattle.jwt_base.specs.Base64Url.{IsPart}
use Rattle.jwt_base.specs.Kind.{Kind}
use Rattle.jwt_base.specs.Kind as kind
use Rattle.jwt_base.specs.declared.algorithms.Algorithm.{Algorithm}
use Rattle.jwt_crypto.specs.GivenSignature.{HasLength}
use Rattle.jwt_header.specs.declared.header.Header.{Header}
use Rattle.jwt_key_files.specs.EcdsaSignatures.{IsSignatureOf, IsSignatureRefused}
use Rattle.jsonwebtoken.specs.Tests.{Compact, Contents, HasParts}
use Rattle.jwt_c_calls.specs.Calls.{Answer, AnswersBy, Returns, Refuses, InputError, Breaks, Leaves, IsErrorOfTwo}
use Rattle.jwt_c_calls.specs.Contents.{acceptors_in}
use Rattle.jwt_c_calls.specs.Exact.{IsMessageOf, IsReadBack, IsTokenOf, ReadsExactHeader, ReadsExactPayload}
use Rattle.jwt_c_calls.specs.Signatures.{OneKey, IsChecked, IsUnchecked, one_key_in}
use Rattle.jwt_c_calls.specs.Status.{algorithm_numbered, number, IsGiven, IsKept}
use Rattle.jwt_c_calls.specs.declared.content.Content.{Content}
use Rattle.jwt_c_calls.specs.declared.inputs.Input.{Input}
use Rattle.jwt_c_calls.specs.declared.inputs.Input.TheVariants as input

-- ---- the texts of a header and of a payload; that of the header is read first

abbrev pub ReadsBoth : List ℕ → List ℕ → Header × Data → Type 0
ReadsBoth header payload e = ReadsExactHeader header e.0 × ReadsExactPayload payload e.1

abbrev pub IsErrorOfEither : List ℕ → List ℕ → Input → Type 0
IsErrorOfEither header payload =
    IsErrorOfTwo input.Header (ReadsExactHeader header) input.Claims (ReadsExactPayload payload)

-- ---- the message that is to be signed

abbrev pub AnswersInput : List ℕ → List ℕ → Answer → Type 0
AnswersInput header payload = AnswersBy {E = Header × Data}
    (ReadsBoth header payload) (IsErrorOfEither header payload)
    (λ e message. IsMessageOf header payload message) (λ e k. ⊥)

-- the text is that of a header with this algorithm
abbrev pub NamesAlgorithm : List ℕ → Algorithm → Type 0
NamesAlgorithm header algorithm = (h : Header) × ReadsExactHeader header h × (h.alg ≡ algorithm)

-- the number of the header's algorithm; without a message 0
abbrev pub IsNumberFor : List ℕ → Answer → ℕ → Type 0
IsNumberFor header (Returns message) n =
    (algorithm : Algorithm) × (algorithm_numbered n ≡ Some algorithm) × NamesAlgorithm header algorithm
IsNumberFor header (Refuses k) n = n ≡ 0
IsNumberFor header (InputError i) n = n ≡ 0
IsNumberFor header (Breaks f) n = n ≡ 0

-- the result of `jwt_signing_input`: the header's algorithm, and the message in the buffer; or a
-- refusal
abbrev pub LeavesInput : List ℕ → List ℕ → ℕ → ℕ → ℕ → List ℕ → List ℕ → Type 0
LeavesInput header payload algorithm status len before after = (a : Answer)
    × AnswersInput header payload a
    × IsNumberFor header a algorithm
    × Leaves a status len before after

-- ---- the token of a message and its signature

-- the message is that of a header with this algorithm and a payload, and the signature has a length of it
pub record IsAttachable (message signature : List ℕ) (algorithm : Algorithm) : Type 0 where
  pub header : List ℕ
  pub payload : List ℕ
  pub as_header : Header
  pub as_claims : Data
  pub reads_header : ReadsExactHeader header as_header
  pub reads_payload : ReadsExactPayload payload as_claims
  pub names : as_header.alg ≡ algorithm
  pub message_is : IsMessageOf header payload message
  pub length : HasLength algorithm signature

-- the token is that of this message and signature, and is read back as their bytes
abbrev pub IsAttached : List ℕ → List ℕ → Algorithm → List ℕ → Type 0
IsAttached message signature algorithm token = (m : IsAttachable message signature algorithm)
    × IsTokenOf message signature token
    × IsReadBack m.header m.payload message signature token m.as_header m.as_claims

-- no algorithm is that of the message and the signature, or memory ran out
abbrev pub IsUnattachable : List ℕ → List ℕ → ℕ → Type 0
IsUnattachable message signature status = (status ≡ number kind.OutOfMemory)
    ⊎ ((status ≡ 17) × ((a : Algorithm) → ¬ IsAttachable message signature a))

-- with the one key of a verifier: it accepts the signature, by an algorithm that it lists
abbrev pub IsAttachedBy : OneKey → List ℕ → List ℕ → List ℕ → Type 0
IsAttachedBy one message signature token = (a : Algorithm) × IsAttached message signature a token
    × IsChecked one a message signature

abbrev pub IsUnattachedBy : OneKey → List ℕ → List ℕ → ℕ → Type 0
IsUnattachedBy one message signature status = IsUnattachable message signature status
    ⊎ ((a : Algorithm) × IsAttachable message signature a
    × ((k : Kind) × IsUnchecked one a message signature k × (status ≡ number k)))

-- the result of `jwt_attach` with a handle that holds nothing, or with one that holds a content
abbrev pub IsAttachedIn : Option Content → List ℕ → List ℕ → List ℕ → Type 0
IsAttachedIn None message signature token = (a : Algorithm) × IsAttached message signature a token
IsAttachedIn (Some c) message signature token = MatchResult (one_key_in (acceptors_in (Some c)))
    (λ one. IsAttachedBy one message signature token) (λ why. ⊥)

abbrev pub IsUnattachedIn : Option Content → List ℕ → List ℕ → ℕ → Type 0
IsUnattachedIn None message signature status = IsUnattachable message signature status
IsUnattachedIn (Some c) message signature status = MatchResult (one_key_in (acceptors_in (Some c)))
    (λ one. IsUnattachedBy one message signature status) (λ why. status ≡ why)

abbrev pub LeavesAttached : Option Content → (message signature : List ℕ) → (status len : ℕ) → (before after : List ℕ) → Type 0
LeavesAttached held message signature status len before after =
    ((token : List ℕ) × IsAttachedIn held message signature token × IsGiven token status len before after)
    ⊎ ((why : ℕ) × IsUnattachedIn held message signature why × IsKept why status len before after)

-- ---- ECDSA signatures

-- the two numbers of a signature in DER (RFC 7518 section 3.4); a number of no algorithm is refused
abbrev pub AnswersEcdsa : Option Algorithm → List ℕ → Answer → Type 0
AnswersEcdsa None der a = a ≡ Refuses kind.InvalidAlgorithmName
AnswersEcdsa (Some algorithm) der (Returns signature) = IsSignatureOf algorithm der signature
AnswersEcdsa (Some algorithm) der (Refuses k) =
    (k ≡ kind.OutOfMemory) ⊎ IsSignatureRefused algorithm der k
AnswersEcdsa (Some algorithm) der (InputError i) = ⊥
AnswersEcdsa (Some algorithm) der (Breaks f) = ⊥

-- for a private clause: the token's header, with this algorithm, and its payload have no name twice
pub record HasExactParts (token : List ℕ) (algorithm : Algorithm) : Type 0 where
  pub contents : Contents
  pub parts : HasParts (Compact token) contents.parts
  pub header : IsPart contents.parts.header contents.header_bytes
  pub payload : IsPart contents.parts.payload contents.payload_bytes
  pub names : NamesAlgorithm contents.header_bytes algorithm
  pub claims : Data
  pub reads_payload : ReadsExactPayload contents.payload_bytes claims
