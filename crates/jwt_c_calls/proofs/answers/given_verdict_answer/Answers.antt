use Rattle.jwt_c_calls.specs.Calls.{AnswersVerdict}
use Rattle.jwt_c_calls.proofs.Answered.{one_side}
use Rattle.jwt_c_calls.proofs.answers.given_verdict_answer.Goals as goal

pub returns-in-Some : goal.returns-in-Some
returns-in-Some c =
    let said = one_side (λ b. b.items) (AnswersVerdict c.args.options.now c.args.token.now c.new-verdict.result c.args.time)
    c.verdict_answer.result c.verdict_answer.ensures.ok c.verdict_answer.ensures.err in
    rw (← c.in-Some.ensures) (rw c.new-verdict.ensures at said)
