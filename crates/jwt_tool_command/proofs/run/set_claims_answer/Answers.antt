use Rattle.std.proofs.Common.{inl}
use Rattle.std.proofs.lemmas.Result.{IfOk-weaker}
use Rattle.jwt_tool_command.specs.Line.{HasSetFault}
use Rattle.jwt_tool_command.proofs.Said.{refused_said}
use Rattle.jwt_tool_command.proofs.run.set_claims_answer.Goals as goal

pub returns-in-Ok : goal.returns-in-Ok
returns-in-Ok c =
    IfOk-weaker c.value_answer.result _ _ (λ a says. inl (inl (_, c.in-Ok.ensures.ok, says))) c.value_answer.ensures

pub returns-in-Err : goal.returns-in-Err
returns-in-Err c =
    IfOk-weaker c.refusal_answer.result _ _ (λ a said. refused_said
    (HasSetFault c.args.input.now c.args.algorithm c.args.set.now c.args.time) _ _ _ c.in-Err.ensures.err said)
    c.refusal_answer.ensures
