use Rattle.jwt_c_calls.proofs.Answered.{answered}
use Rattle.jwt_c_calls.specs.Unverified.{AnswersPart}
use Rattle.jwt_c.proofs.jwt_unverified.Goals as goal

pub returns-in-Some : goal.returns-in-Some
returns-in-Some c = rw (← c.in-Some.ensures) (answered (λ b. b.items) (AnswersPart c.in-Some.part c.args.token.now)
    c.part_answer-answer.result c.leave.result c.leave.new.len c.args.room.now c.leave.new.room
    c.part_answer-answer.ensures.ok c.part_answer-answer.ensures.err c.leave.ensures.given c.leave.ensures.kept)
