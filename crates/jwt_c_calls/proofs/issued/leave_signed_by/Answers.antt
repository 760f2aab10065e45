use Rattle.jwt_c_calls.specs.Issued.{AnswersSign}
use Rattle.jwt_c_calls.proofs.Answered.{answered}
use Rattle.jwt_c_calls.proofs.issued.leave_signed_by.Goals as goal

pub returns-in-Some : goal.returns-in-Some
returns-in-Some c = rw (c.in-Keys.is, c.in-Some.ensures) (answered (λ b. b.items)
    (AnswersSign c.in-Some.jwk.now c.args.header.now c.args.payload.now) c.sign_answer-answer.result c.leave.result c.leave.new.len
    c.args.room.now c.leave.new.room c.sign_answer-answer.ensures.ok c.sign_answer-answer.ensures.err c.leave.ensures.given
    c.leave.ensures.kept)
