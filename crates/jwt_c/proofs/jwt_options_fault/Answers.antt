use Rattle.jwt_c_calls.proofs.Answered.{answered}
use Rattle.jwt_c_calls.specs.Options.{AnswersFault}
use Rattle.jwt_c.proofs.jwt_options_fault.Goals as goal

pub returns : goal.returns
returns c = answered (λ b. b.items) (AnswersFault c.args.options.now) c.options_answer-answer.result c.leave.result
    c.leave.new.len c.args.room.now c.leave.new.room
    c.options_answer-answer.ensures.ok c.options_answer-answer.ensures.err c.leave.ensures.given c.leave.ensures.kept
