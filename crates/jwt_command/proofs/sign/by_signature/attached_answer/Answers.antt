use Rattle.std.proofs.lemmas.Result.{IfOk-weaker}
use Rattle.serde_json.specs.View.{view}
use Rattle.jwt_command.proofs.sign.by_signature.attached_answer.Goals as goal

pub returns : goal.returns
returns c =
    IfOk-weaker c.contents_answer-answer.result _ _
    (λ a says. (c.in_ok-contents.contents.header, view c.in_ok-contents.contents.claims, c.in_ok-contents.ensures, says))
    c.contents_answer-answer.ensures
