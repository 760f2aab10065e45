use Rattle.std.proofs.Common.{inl}
use Rattle.std.proofs.lemmas.Result.{IfOk-weaker}
use Rattle.jsonwebtoken.specs.Order.{FailsFirst}
use Rattle.jsonwebtoken.specs.Tests.{decode_order, token_tests}
use Rattle.jwt_tool_command.specs.Line.{hmac_call}
use Rattle.jwt_tool_command.proofs.Said.{refused_said}
use Rattle.jwt_tool_command.proofs.run.claims_answer.Goals as goal

pub returns-in-Ok : goal.returns-in-Ok
returns-in-Ok c =
    IfOk-weaker c.value_answer.result _ _ (λ a says. inl (inl (_, c.in-Ok.ensures.ok, says))) c.value_answer.ensures

pub returns-in-Err : goal.returns-in-Err
returns-in-Err c =
    IfOk-weaker c.refusal_answer.result _ _ (λ a said. refused_said
    (λ k. FailsFirst (token_tests (hmac_call c.args.input.now c.args.algorithm c.args.secret.now c.args.time))
    decode_order k) _ _ _ c.in-Err.ensures.err said) c.refusal_answer.ensures
