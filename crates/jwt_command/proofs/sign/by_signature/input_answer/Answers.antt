use Rattle.std.proofs.Common.{subst, IfOk, string_bytes}
use Rattle.serde_json.specs.View.{view}
use Rattle.jwt_command.specs.BySignature.{IsInputAnswer}
use Rattle.jwt_command.proofs.sign.by_signature.input_answer.Goals as goal

pub returns-in-Ok : goal.returns-in-Ok
returns-in-Ok c =
    subst (λ h. IfOk c.message_answer-answer.result
    (λ a. IsInputAnswer h (view c.args.claims.now) a.status (string_bytes a.output)))
    c.in-Ok.ensures c.message_answer-answer.ensures
