use Rattle.std.proofs.lemmas.Result.{IfErr-weaker, IfOk-weaker}
use Rattle.jwt_base.specs.JsonText.{ReadsText}
use Rattle.jwt_c_calls.specs.Asked.{ReadsAsked, asked_of}
use Rattle.jwt_c_calls.specs.Calls.{Returns, answer_of}
use Rattle.jwt_c_calls.specs.declared.inputs.Input.TheVariants as input
use Rattle.jwt_c_calls.proofs.Answered.{read_ok}
use Rattle.jwt_c_calls.proofs.Vouched.{of_read}
use Rattle.jwt_c_calls.proofs.answers.verdict_answer.Goals as goal

pub returns-clause-ok : goal.returns-clause-ok
returns-clause-ok c =
    let reads = read_ok (λ v. ReadsText ReadsAsked c.args.options.now (asked_of v)) input.Options c.read_options.result _
    c.in_ok-asked.ensures c.read_options.ensures.ok in
    IfOk-weaker c.answer_by_verdict-answer.result _ _ (λ b. of_read (asked_of c.in_ok-asked.asked) c.args.token.now c.args.verdict.now
    c.args.time c.args.options.now reads (Returns b.items)) c.answer_by_verdict-answer.ensures.ok

pub returns-clause-err : goal.returns-clause-err
returns-clause-err c =
    let reads = read_ok (λ v. ReadsText ReadsAsked c.args.options.now (asked_of v)) input.Options c.read_options.result _
    c.in_ok-asked.ensures c.read_options.ensures.ok in
    IfErr-weaker c.answer_by_verdict-answer.result _ _ (λ r. of_read (asked_of c.in_ok-asked.asked) c.args.token.now c.args.verdict.now
    c.args.time c.args.options.now reads (answer_of r)) c.answer_by_verdict-answer.ensures.err
