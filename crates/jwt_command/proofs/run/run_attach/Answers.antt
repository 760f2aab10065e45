use Rattle.std.proofs.Common.{Some, None, refl}
use Rattle.std.proofs.lemmas.Result.{IfOk-weaker}
use Rattle.jwt_command.proofs.run.run_attach.Goals as goal

pub returns-in-Some : goal.returns-in-Some
returns-in-Some g c =
    IfOk-weaker c.attach_verified.result _ _ (λ a says. (_, _, (Some says.0, rw c.in-Some.is says.1, says.2)))
    c.attach_verified.ensures

pub returns : goal.returns
returns g c =
    IfOk-weaker c.attached_answer.result _ _ (λ a says. (_, _, (None, rw c.in-None.is refl, says)))
    c.attached_answer.ensures
