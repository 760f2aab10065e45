use Rattle.std.proofs.lemmas.Result.{IfOk-weaker}
use Rattle.jwt_command.proofs.run.attach_verified.Goals as goal

pub returns : goal.returns
returns g c =
    IfOk-weaker c.attached_answer-answer.result _ _
    (λ a says. (c.in_ok-loaded.loaded.keys.keys, (_, (c.in_ok-loaded.loaded.own, c.in_ok-loaded.ensures.ok)), says))
    c.attached_answer-answer.ensures
