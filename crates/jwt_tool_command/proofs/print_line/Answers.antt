use Rattle.std.proofs.Common.{map, string_bytes}
use Rattle.std.proofs.lemmas.Result.{IfOk-weaker}
use Rattle.jwt_tool_command.proofs.print_line.Goals as goal

pub returns : goal.returns
returns g c =
    IfOk-weaker c.run.result _ _
    (λ status says. (map string_bytes c.deref.result.now, says.0, says.1, says.2)) c.run.ensures.of_some_input
