use Rattle.std.proofs.Common.{refl, inl}
use Rattle.std.proofs.lemmas.Result.{IfOk-weaker}
use Rattle.jwt_tool_command.specs.Line.{HasThumbprintFault}
use Rattle.jwt_tool_command.proofs.Said.{refused_said}
use Rattle.jwt_tool_command.proofs.run.thumbprint_answer.Goals as goal

pub returns-in-Ok : goal.returns-in-Ok
returns-in-Ok c = inl (inl (c.in-Ok.ensures.ok, refl))

pub returns-in-Err : goal.returns-in-Err
returns-in-Err c =
    IfOk-weaker c.refusal_answer.result _ _ (λ a said. refused_said (λ k. HasThumbprintFault c.args.input.now k) _ _ _
    c.in-Err.ensures.err said) c.refusal_answer.ensures
