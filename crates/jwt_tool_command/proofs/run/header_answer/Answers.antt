use Rattle.std.proofs.Common.{inl}
use Rattle.std.proofs.lemmas.Result.{IfOk-weaker}
use Rattle.jsonwebtoken.specs.Order.{FailsFirst}
use Rattle.jsonwebtoken.specs.Tests.{header_order, header_call, token_tests}
use Rattle.jwt_tool_command.proofs.Said.{refused_said}
use Rattle.jwt_tool_command.proofs.run.header_answer.Goals as goal

pub returns-in-Ok : goal.returns-in-Ok
returns-in-Ok c =
    IfOk-weaker c.text_answer.result _ _ (λ a says. inl (inl (_, c.in-Ok.ensures.ok, says))) c.text_answer.ensures

pub returns-in-Err : goal.returns-in-Err
returns-in-Err c =
    IfOk-weaker c.refusal_answer.result _ _
    (λ a said. refused_said (λ k. FailsFirst (token_tests (header_call c.args.input.now)) header_order k)
    _ _ _ c.in-Err.ensures.err said) c.refusal_answer.ensures
