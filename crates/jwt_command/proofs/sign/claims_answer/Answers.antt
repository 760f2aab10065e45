use Rattle.std.proofs.Common.{subst, IfOk, string_bytes}
use Rattle.serde_json.specs.View.{view}
use Rattle.jwt_command.specs.Answers.{IsSignAnswer}
use Rattle.jwt_command.proofs.sign.claims_answer.Goals as goal

pub returns-in-Ok : goal.returns-in-Ok
returns-in-Ok c =
    subst (λ h. IfOk c.sign_answer-answer.result
    (λ a. IsSignAnswer h (view c.args.claims.now) c.args.secret.now a.status (string_bytes a.output)))
    c.in-Ok.ensures c.sign_answer-answer.ensures
