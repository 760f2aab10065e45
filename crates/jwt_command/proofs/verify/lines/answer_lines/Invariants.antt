use Rattle.jwt_validation.specs.OptionsOf.{options_of}
use Rattle.jwt_command.specs.Commands.{IsLinesStatus}
use Rattle.jwt_command.proofs.verify.lines.answer_lines.Given as goal

abbrev pub invariant-loop : goal.invariant-loop
invariant-loop g l = IsLinesStatus l.request l.loaded (options_of l.validation) l.status
