use Rattle.serde_json.specs.View.{view}
use Rattle.jwt_c_calls.specs.Asked.{asked_of}
use Rattle.jwt_c_calls.specs.Calls.{AnswersVerdictOf}
use Rattle.jwt_c_calls.proofs.Answered.{err_side, ok_side}
use Rattle.jwt_c_calls.proofs.Vouched.{checked}
use Rattle.jwt_c_calls.proofs.answers.answer_by_verdict.Goals as goal

pub returns-clause-ok : goal.returns-clause-ok
returns-clause-ok c = ok_side (λ b. b.items)
    (AnswersVerdictOf (asked_of c.args.asked.now) c.args.token.now c.args.verdict.now c.args.time) c.checked_text-text.result
    (checked (asked_of c.args.asked.now) c.args.token.now c.args.verdict.now c.args.time (view c.in_ok-data.data.claims)
    c.in_ok-data.data.header c.in_ok-data.ensures.accepted _ c.checked_text-text.ensures)

pub returns-clause-err : goal.returns-clause-err
returns-clause-err c = err_side (λ b. b.items)
    (AnswersVerdictOf (asked_of c.args.asked.now) c.args.token.now c.args.verdict.now c.args.time) c.checked_text-text.result
    (checked (asked_of c.args.asked.now) c.args.token.now c.args.verdict.now c.args.time (view c.in_ok-data.data.claims)
    c.in_ok-data.data.header c.in_ok-data.ensures.accepted _ c.checked_text-text.ensures)
