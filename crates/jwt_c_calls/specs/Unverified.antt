-- The result of the call for C that reads a part of a token without verifying it.
use Rattle.std.specs.Prelude.{◌≡◌, ◌⊎◌, ◌==◌, ℕ, List, Bool, Option, Some, None, MatchOption, if◌then◌else◌}
use Rattle.serde_json.specs.Data.{Data}
use Rattle.jwt_base.specs.Kind.{Kind}
use Rattle.jwt_base.specs.Kind as kind
use Rattle.jsonwebtoken.specs.Order.{Passes, FailsFirst}
use Rattle.jsonwebtoken.specs.Tests.{Contents, header_call, header_bytes_order, payload_bytes_order, token_tests}
use Rattle.jsonwebtoken.specs.declared.refusal.Test.{Test}
use Rattle.jwt_c_calls.specs.AsSigned.{IsShownAs}
use Rattle.jwt_c_calls.specs.Calls.{Answer, Returns, Refuses, InputError, Breaks, HasNoReading, Leaves}
use Rattle.jwt_c_calls.specs.Inputs.{ReadsClaimsText}
use Rattle.jwt_c_calls.specs.Status.{unknown_number, IsKept}
use Rattle.jwt_c_calls.specs.declared.unverified.Part.{Part}
use Rattle.jwt_c_calls.specs.declared.unverified.Part.TheVariants.{Header, Payload}

-- the numbers of the parts
abbrev pub part_numbered : ℕ → Option Part
part_numbered n = if n == 1 then Some Header else (if n == 2 then Some Payload else None)

-- the tests of a token before the bytes of a part are read: it has three parts (RFC 7515 section 7.1), and this one is base64url
-- text (RFC 7515 section 5.2)
abbrev pub order_of_part : Part → List Test
order_of_part Header = header_bytes_order
order_of_part Payload = payload_bytes_order

abbrev pub bytes_in : Part → Contents → List ℕ
bytes_in Header t = t.header_bytes
bytes_in Payload t = t.payload_bytes

-- the bytes that the part stands for
abbrev pub IsBytesOfPart : Part → List ℕ → List ℕ → Type 0
IsBytesOfPart part token bytes = (t : Contents)
    × Passes (token_tests (header_call token)) (order_of_part part) t × (bytes ≡ bytes_in part t)

-- the kind of the first of these tests that fails
abbrev pub HasNoBytes : Part → List ℕ → Kind → Type 0
HasNoBytes part token = FailsFirst (token_tests (header_call token)) (order_of_part part)

-- The text of an object, as it was signed (RFC 7515 section 4, RFC 7519 section 4); or the kind of the first failed test, or `Json`
-- of bytes that are not the JSON of an object, or memory ran out.
abbrev pub AnswersPart : Part → List ℕ → Answer → Type 0
AnswersPart part token (Returns text) = (bytes : List ℕ) × IsBytesOfPart part token bytes
    × ((value : Data) × ReadsClaimsText bytes value × ((as_signed : Bool) × IsShownAs bytes value text as_signed))
AnswersPart part token (Refuses k) = (k ≡ kind.OutOfMemory)
    ⊎ (HasNoBytes part token k
    ⊎ ((k ≡ kind.Json) × ((bytes : List ℕ) × IsBytesOfPart part token bytes × HasNoReading (ReadsClaimsText bytes))))
AnswersPart part token (InputError i) = ⊥
AnswersPart part token (Breaks f) = ⊥

-- the result of `jwt_unverified`; a number of no part is refused
abbrev pub LeavesPart : (token : List ℕ) (part status len : ℕ) (before after : List ℕ) → Type 0
LeavesPart token part status len before after = MatchOption (part_numbered part)
    (IsKept unknown_number status len before after)
    (λ p. (a : Answer) × AnswersPart p token a × Leaves a status len before after)
