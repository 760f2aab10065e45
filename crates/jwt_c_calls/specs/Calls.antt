-- The results of the calls for C.
use Rattle.std.specs.Prelude.{◌≡◌, ◌⊎◌, ◌≤◌, ◌<◌, ◌+◌, ℕ, List, [], Bool, true, false, length, Option, Some, None, Result, Ok, Err}
use Rattle.serde_json.specs.Data.{Data}
use Rattle.serde_json.specs.declared.value.Value.{Value}
use Rattle.jwt_base.specs.Algorithm.{family_of}
use Rattle.jwt_base.specs.Claims.{IsValue}
use Rattle.jwt_base.specs.JsonText.{IsJson, ReadsText}
use Rattle.jwt_base.specs.Kind.{Kind}
use Rattle.jwt_base.specs.Kind as kind
use Rattle.jwt_base.specs.KindOf.{kind_of}
use Rattle.jwt_base.specs.declared.algorithms.Algorithm.{Algorithm}
use Rattle.jwt_base.specs.declared.errors.Error.{Error}
use Rattle.jwt_keys.specs.Key.{Plain}
use Rattle.jwt_validation.specs.Options.{Options}
use Rattle.jwt_further.specs.Further.{FurtherHolds, further_fault}
use Rattle.jwt_further.specs.declared.FurtherFault.{FurtherFault}
use Rattle.jwt_c_calls.specs.Asked.{AskedOptions, ReadsAsked}
use Rattle.jwt_c_calls.specs.AsSigned.{IsShownAs}
use Rattle.jwt_crypto.specs.Verdict.{Verdict, IsVerified, refusal_by}
use Rattle.jsonwebtoken.specs.Order.{Passes, FailsFirst}
use Rattle.jsonwebtoken.specs.Tests.{Call, Compact, Contents, Given, decode_order}
use Rattle.jsonwebtoken.specs.Tests.{signed_order, payload_bytes_order, header_call, message_of, verifying_call, token_tests}
use Rattle.jsonwebtoken.specs.Vouched.{IsVouched}
use Rattle.jwt_c_calls.specs.Status.{number, further_claim, further_status, input_status, algorithm_numbered, IsGiven, IsKept}
use Rattle.jwt_c_calls.specs.declared.answers.CallerVerdict as given
use Rattle.jwt_c_calls.specs.declared.inputs.Input.{Input}
use Rattle.jwt_c_calls.specs.declared.inputs.Input.TheVariants as input
use Rattle.jwt_c_calls.specs.declared.inputs.CallError.{CallError}
use Rattle.jwt_c_calls.specs.declared.inputs.CallError.TheVariants as refused

-- ---- results

-- the result of a call
pub data Answer : Type 0 where
  -- these bytes
  Returns : List ℕ → Answer
  -- the token is refused
  Refuses : Kind → Answer
  -- this text does not describe the value that it must
  InputError : Input → Answer
  -- this is the first of the further rules that fails
  Breaks : FurtherFault → Answer

-- its form in status, length and buffer
abbrev pub Leaves : Answer → ℕ → ℕ → List ℕ → List ℕ → Type 0
Leaves (Returns bytes) = IsGiven bytes
Leaves (Refuses k) = IsKept (number k)
Leaves (InputError i) = IsKept (input_status i)
Leaves (Breaks f) = IsKept (further_status f)

-- ---- texts that are given

-- a text that no value can be read from
abbrev pub HasNoReading : {X : Type 0} → (X → Type 0) → Type 0
HasNoReading Reads = (x : _) → ¬ Reads x

-- the only text is at fault: no value can be read from it
abbrev pub IsErrorOfOne : {X : Type 0} → Input → (X → Type 0) → Input → Type 0
IsErrorOfOne first Reads i = (i ≡ first) × HasNoReading Reads

-- the first of two texts is at fault; or a value is read from it, and the second text is at fault
abbrev pub IsErrorOfTwo : {X Y : Type 0} → Input → (X → Type 0) → Input → (Y → Type 0) → Input → Type 0
IsErrorOfTwo first Reads second ReadsToo i = IsErrorOfOne first Reads i
    ⊎ (((x : _) × Reads x) × IsErrorOfOne second ReadsToo i)

-- The result for the values that the texts are read as: the bytes that are written; or the kind
-- with which the values are refused, or memory ran out; or a text is at fault.
abbrev pub AnswersBy : {E : Type 0} → (E → Type 0) → (Input → Type 0)
    → (E → List ℕ → Type 0) → (E → Kind → Type 0) → Answer → Type 0
AnswersBy Reads IsInputError Shows Refused (Returns bytes) = (e : _) × Reads e × Shows e bytes
AnswersBy Reads IsInputError Shows Refused (Refuses k) = (k ≡ kind.OutOfMemory)
    ⊎ ((e : _) × Reads e × Refused e k)
AnswersBy Reads IsInputError Shows Refused (InputError i) = IsInputError i
AnswersBy Reads IsInputError Shows Refused (Breaks f) = ⊥

-- the same if a further rule can fail for the values
abbrev pub AnswersByRules : {E : Type 0} → (E → Type 0) → (Input → Type 0)
    → (E → List ℕ → Type 0) → (E → Kind → Type 0) → (E → FurtherFault → Type 0) → Answer → Type 0
AnswersByRules Reads IsInputError Shows Refused Broken (Returns bytes) = (e : _) × Reads e × Shows e bytes
AnswersByRules Reads IsInputError Shows Refused Broken (Refuses k) = (k ≡ kind.OutOfMemory)
    ⊎ ((e : _) × Reads e × Refused e k)
AnswersByRules Reads IsInputError Shows Refused Broken (InputError i) = IsInputError i
AnswersByRules Reads IsInputError Shows Refused Broken (Breaks f) = (e : _) × Reads e × Broken e f

-- ---- claims

-- `decode` with a verdict
abbrev pub verdict_call : List ℕ → Verdict → ℕ → Options → Call Value
verdict_call token v time options =
    verifying_call (Compact token) (Given (Plain (family_of v.algorithm) [])) options time
    (refusal_by v) (λ _ _. IsVerified v) IsValue

-- the text shows the payload of accepted contents
abbrev pub IsClaimsText : (Contents → Type 0) → List ℕ → Type 0
IsClaimsText Accepted claims = (t : Contents) × Accepted t
    × ((as_signed : Bool) × IsShownAs t.payload_bytes t.payload_value claims as_signed)

-- With the options that the text describes. Accepted contents are those that the verdict vouches for, if the further rules
-- hold. A refusal has the kind of the first test of `decode` that fails, or is the first further rule that does.
abbrev pub AnswersVerdict : List ℕ → List ℕ → Verdict → ℕ → Answer → Type 0
AnswersVerdict text token v time = AnswersByRules
    (ReadsText ReadsAsked text) (IsErrorOfOne input.Options (ReadsText ReadsAsked text))
    (λ o. IsClaimsText (λ t. IsVouched (verdict_call token v time o.usual) v t
    × FurtherHolds o.further o.usual.leeway time t.payload_value))
    (λ o. FailsFirst (token_tests (verdict_call token v time o.usual)) decode_order)
    (λ o f. (t : Contents) × IsVouched (verdict_call token v time o.usual) v t
    × (further_fault o.further o.usual.leeway time t.payload_value ≡ Some f))

-- a caller's verdict, by the algorithm that is named by its number
pub record Said : Type 0 where
  pub message : List ℕ
  pub signature : List ℕ
  pub says_yes : Bool

-- the same of the struct that it is given as
abbrev pub said_value : given.CallerVerdict → Said
said_value s = record { message = s.message.now; signature = s.signature.now; says_yes = s.verdict }

abbrev pub verdict_by : Said → Algorithm → Verdict
verdict_by s a = record { algorithm = a; message = s.message; signature = s.signature; says_yes = s.says_yes }

-- a number of no algorithm is refused, before the options are read
abbrev pub AnswersGivenVerdict : Option Algorithm → List ℕ → List ℕ → Said → ℕ → Answer → Type 0
AnswersGivenVerdict None text token s time a = a ≡ Refuses kind.InvalidAlgorithmName
AnswersGivenVerdict (Some algorithm) text token s time a =
    AnswersVerdict text token (verdict_by s algorithm) time a

-- ---- the message that is signed

-- the result of `jwt_signed_part`: the header's algorithm, the length of the message, which is the
-- front of the token, and the signature's bytes in the buffer (RFC 7515 section 5.1); or a refusal
abbrev pub LeavesSigned : List ℕ → ℕ → ℕ → ℕ → ℕ → List ℕ → List ℕ → Type 0
LeavesSigned token algorithm message_len status len before after =
    ((t : Contents) × Passes (token_tests (header_call token)) signed_order t
    × (algorithm_numbered algorithm ≡ Some t.header.alg)
    × (message_len ≡ length (message_of t.parts))
    × IsGiven t.signature_bytes status len before after)
    ⊎ ((k : Kind)
    × ((k ≡ kind.OutOfMemory) ⊎ FailsFirst (token_tests (header_call token)) signed_order k)
    × (algorithm ≡ 0) × (message_len ≡ 0) × IsKept (number k) status len before after)

-- ---- for private clauses

-- the result that a refusal stands for
abbrev pub answer_of : CallError → Answer
answer_of (refused.Input i) = InputError i
answer_of (refused.Token e) = Refuses (kind_of e)
answer_of (refused.Further f) = Breaks f

-- the result that a result of bytes is
abbrev pub answer_in : {V : Type 0} → (V → List ℕ) → Result V CallError → Answer
answer_in items (Ok b) = Returns (items b)
answer_in items (Err r) = answer_of r

-- the status of an answer without bytes
abbrev pub status_of : Answer → ℕ
status_of (Returns bytes) = 0
status_of (Refuses k) = number k
status_of (InputError i) = input_status i
status_of (Breaks f) = further_status f

-- the place of the claim's name in its option, from 1 on, of a further rule that fails
abbrev pub claim_of : Answer → ℕ
claim_of (Returns bytes) = 0
claim_of (Refuses k) = 0
claim_of (InputError i) = 0
claim_of (Breaks f) = further_claim f

abbrev pub refusal_status : CallError → ℕ
refusal_status (refused.Input i) = input_status i
refusal_status (refused.Token e) = number (kind_of e)
refusal_status (refused.Further f) = further_status f

abbrev pub refusal_claim : CallError → ℕ
refusal_claim (refused.Input i) = 0
refusal_claim (refused.Token e) = 0
refusal_claim (refused.Further f) = further_claim f

-- the result with options that were read
abbrev pub AnswersVerdictOf : AskedOptions → List ℕ → Verdict → ℕ → Answer → Type 0
AnswersVerdictOf o token v time = AnswersByRules {E = Unit {0}} (λ _. Unit {0}) (λ i. ⊥)
    (λ _. IsClaimsText (λ t. IsVouched (verdict_call token v time o.usual) v t
    × FurtherHolds o.further o.usual.leeway time t.payload_value))
    (λ _. FailsFirst (token_tests (verdict_call token v time o.usual)) decode_order)
    (λ _ f. (t : Contents) × IsVouched (verdict_call token v time o.usual) v t
    × (further_fault o.further o.usual.leeway time t.payload_value ≡ Some f))

-- the text of claims that meet the further rules, or the first rule that they do not meet, or memory ran out
abbrev pub IsCheckedText : List ℕ → Data → AskedOptions → ℕ → Answer → Type 0
IsCheckedText token claims o time (Returns text) = FurtherHolds o.further o.usual.leeway time claims
    × ((t : Contents) → Passes (token_tests (header_call token)) payload_bytes_order t → IsJson t.payload_bytes claims
    → (as_signed : Bool) × IsShownAs t.payload_bytes claims text as_signed)
IsCheckedText token claims o time (Refuses k) = k ≡ kind.OutOfMemory
IsCheckedText token claims o time (InputError i) = ⊥
IsCheckedText token claims o time (Breaks f) = further_fault o.further o.usual.leeway time claims ≡ Some f
