use Rattle.jwt_validation.specs.OptionsOf.{options_of}
use Rattle.jwt_command.proofs.LineStatuses.{one_more_line}
use Rattle.jwt_command.proofs.verify.lines.answer_lines.Goals as goal

pub loop-preserved : goal.loop-preserved
loop-preserved g c = one_more_line c.args.request.now c.args.loaded.now (options_of c.args.validation.now) c.loop.status
    c.in_ok-answer.answer.status c.max-status.result c.loop.invariant c.in_ok-answer.ensures c.max-status.ensures
