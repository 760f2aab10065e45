use Rattle.std.proofs.lemmas.Result.{IfOk-weaker}
use Rattle.jwt_command.proofs.Attached.{no_input}
use Rattle.jwt_command.proofs.sign.by_signature.message_answer.Goals as goal

pub returns-in-Err : goal.returns-in-Err
returns-in-Err c =
    IfOk-weaker c.refusal_answer.result _ _ (λ a says. no_input c.args.header.now _ c.in-Err.error a.status _
    c.in-Err.ensures.refused says.0 says.1 says.2) c.refusal_answer.ensures
