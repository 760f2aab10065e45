use Rattle.std.proofs.lemmas.Result.{IfOk-weaker}
use Rattle.jwt_command.proofs.Signed.{not_signed}
use Rattle.jwt_command.proofs.sign.sign_answer.Goals as goal

pub returns : goal.returns
returns c =
    IfOk-weaker c.refusal_answer.result _ _ (λ a says. not_signed c.args.header.now _ c.args.secret.now _ c.in-Err.error
    a.status _ c.in-Ok.ensures.ok
    c.in-Err.ensures.decided.refused says.0 says.1 says.2) c.refusal_answer.ensures
