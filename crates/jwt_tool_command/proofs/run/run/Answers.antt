use Rattle.std.proofs.Common.{map, string_bytes}
use Rattle.jwt_tool_command.proofs.Said.{wrote}
use Rattle.jwt_tool_command.proofs.run.run.Goals as goal

pub returns-clause-answered : goal.returns-clause-answered
returns-clause-answered g c =
    wrote _ _ _ (map string_bytes c.args.words.now) c.in_ok-answer.answer.status _ c.in_ok-answer.ensures.said
    c.in_ok-write_line.ensures.written
