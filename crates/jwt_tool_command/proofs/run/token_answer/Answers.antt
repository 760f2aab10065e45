use Rattle.std.proofs.Common.{refl, inl}
use Rattle.std.proofs.lemmas.Result.{IfOk-weaker}
use Rattle.jwt_tool_command.specs.Line.{HasTokenFault}
use Rattle.jwt_tool_command.proofs.Said.{refused_said}
use Rattle.jwt_tool_command.proofs.run.token_answer.Goals as goal

pub returns-in-Ok : goal.returns-in-Ok
returns-in-Ok c = inl (inl (c.in-Ok.ensures.ok, refl))

pub returns-in-Err : goal.returns-in-Err
returns-in-Err c =
    IfOk-weaker c.refusal_answer.result _ _
    (λ a said. refused_said (λ k. HasTokenFault c.args.input.now c.args.algorithm c.args.secret.now k) _ _ _
    c.in-Err.ensures.err said) c.refusal_answer.ensures
