use Rattle.jwt_c_calls.proofs.Answered.{answered}
use Rattle.jwt_c_calls.specs.BySignature.{AnswersEcdsa}
use Rattle.jwt_c_calls.specs.Status.{algorithm_numbered}
use Rattle.jwt_c.proofs.jwt_ecdsa_signature.Goals as goal

pub returns : goal.returns
returns c = answered (λ b. b.items) (AnswersEcdsa (algorithm_numbered c.args.algorithm) c.args.der.now)
    c.ecdsa_answer-answer.result c.leave.result c.leave.new.len c.args.room.now c.leave.new.room
    c.ecdsa_answer-answer.ensures.ok c.ecdsa_answer-answer.ensures.err c.leave.ensures.given c.leave.ensures.kept
