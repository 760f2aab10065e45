use Rattle.jwt_c_calls.proofs.Answered.{answered}
use Rattle.jwt_c_calls.specs.Options.{AnswersQuoted}
use Rattle.jwt_c.proofs.jwt_quote.Goals as goal

pub returns : goal.returns
returns c = answered (λ b. b.items) (AnswersQuoted c.args.text.now) c.quoted_answer-answer.result c.leave.result
    c.leave.new.len c.args.room.now c.leave.new.room
    c.quoted_answer-answer.ensures.ok c.quoted_answer-answer.ensures.err c.leave.ensures.given c.leave.ensures.kept
