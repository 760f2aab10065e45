use Rattle.std.proofs.KnownBytes.{Consumes-trans}
use Rattle.jwt_tool_command.proofs.input.gather.Goals as goal

pub returns-then-is_err-clause-taken : goal.returns-then-is_err-clause-taken
returns-then-is_err-clause-taken g c = (_, Consumes-trans _ _ _ _ _ c.reads.invariant c.in-Ok.ensures.bytes.0)
