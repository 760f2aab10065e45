use Rattle.std.proofs.Common.{refl}
use Rattle.std.specs.String.{string_bytes}
use Rattle.jwt_c_calls.specs.Calls.{Returns}
use Rattle.jwt_c_calls.proofs.Answered.{no_message}
use Rattle.jwt_c.proofs.jwt_signing_input.Goals as goal

pub returns-in-Ok : goal.returns-in-Ok
returns-in-Ok c = (
  Returns (string_bytes c.in-Ok.input.message),
  c.in-Ok.ensures.ok,
  (_, c.algorithm_number.ensures, c.in-Ok.ensures.algorithm),
  rw c.as_bytes.ensures.value at c.put_bytes.ensures,
)

pub returns-in-Err : goal.returns-in-Err
returns-in-Err c =
    no_message c.args.header.now c.args.payload.now c.in-Err.refusal 0 _ 0 c.args.room.now c.args.room.now
    c.in-Err.ensures.err refl
    (record { number = c.status_of.ensures; none = refl; room = refl })
