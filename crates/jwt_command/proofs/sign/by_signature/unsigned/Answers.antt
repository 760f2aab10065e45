use Rattle.std.proofs.Common.{rules}
use Rattle.std.proofs.lemmas.Result.{IfOk-weaker}
use Rattle.jwt_command.proofs.Attached.{unsigned_is}
use Rattle.jwt_command.proofs.sign.by_signature.unsigned.Goals as goal

pub returns-in-Ok : goal.returns-in-Ok
returns-in-Ok c =
    IfOk-weaker c.unless_of_secret.result _ _
    (λ d says. unsigned_is c.args.input.now c.deref.result.now c.in-Ok.contents d (search rules) c.in-Ok.ensures.accepted
    says.0 says.1) c.unless_of_secret.ensures
