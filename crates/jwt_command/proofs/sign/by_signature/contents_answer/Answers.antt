use Rattle.std.proofs.Common.{inl, string_bytes}
use Rattle.std.proofs.lemmas.Result.{IfOk-weaker}
use Rattle.jwt_command.proofs.Attached.{no_token}
use Rattle.jwt_command.proofs.sign.by_signature.contents_answer.Goals as goal

pub returns-in-Ok : goal.returns-in-Ok
returns-in-Ok c =
    IfOk-weaker c.token_answer.result _ _ (λ a says. inl (string_bytes c.in-Ok.token, c.in-Ok.ensures.ok, says))
    c.token_answer.ensures

pub returns-in-Err : goal.returns-in-Err
returns-in-Err c =
    IfOk-weaker c.refusal_answer.result _ _ (λ a says. no_token _ _ _ _ _ c.in-Err.error a.status _ c.in-Err.ensures.err
    says.0 says.1 says.2) c.refusal_answer.ensures
