use Rattle.std.proofs.Common.{inl}
use Rattle.std.proofs.lemmas.Result.{IfOk-weaker}
use Rattle.jwt_command.proofs.Shown.{not_shown}
use Rattle.jwt_command.proofs.show.show_answer.Goals as goal

pub returns-in-Ok : goal.returns-in-Ok
returns-in-Ok c =
    let read = c.in-Ok.ensures.accepted in
    IfOk-weaker c.contents_answer-answer.result _ _ (λ a is. inl (read.0, read.1, is)) c.contents_answer-answer.ensures

pub returns-in-Err : goal.returns-in-Err
returns-in-Err c = IfOk-weaker c.unread_answer.result _ _
    (λ a says. not_shown c.args.token.now c.in-Err.error a.status c.in-Err.ensures.refused says.0 says.1) c.unread_answer.ensures
