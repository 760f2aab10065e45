use Rattle.std.proofs.Common.{[], Err, inr, refl}
use Rattle.std.proofs.lemmas.Result.{IfErr-weaker, err_from_is_err_and, on_ok_weaker}
use Rattle.serde_json.specs.View.{view}
use Rattle.jwt_base.specs.JsonText.{ReadsText}
use Rattle.jwt_c_calls.specs.Asked.{ReadsAsked, asked_of}
use Rattle.jwt_c_calls.specs.Calls.{Returns, answer_of}
use Rattle.jwt_c_calls.specs.Inputs.{ReadsClaimsText}
use Rattle.jwt_c_calls.specs.declared.inputs.Input.TheVariants as input
use Rattle.jwt_c_calls.proofs.Answered.{read_ok, rules_error}
use Rattle.jwt_c_calls.proofs.RuleAnswers.{of_read}
use Rattle.jwt_c_calls.proofs.claim_rules.rules_answer.Goals as goal

pub returns-in_err-claims-clause-err : goal.returns-in_err-claims-clause-err
returns-in_err-claims-clause-err c =
    let options = read_ok (λ v. ReadsText ReadsAsked c.args.options.now (asked_of v)) input.Options
    c.read_options.result _ c.in_ok-asked.ensures c.read_options.ensures.ok in
    let p = err_from_is_err_and c.from_residual-in_err-claims.result c.from_residual-in_err-claims.ensures.1 in
    rw (p.1, p.2) (rules_error _ _ _ _ _ input.Claims _ (λ none. inr ((_, options), (refl, none))) c.read_claims.result
    (Err _) c.in_err-claims.ensures c.read_claims.ensures.err)

pub returns-clause-ok : goal.returns-clause-ok
returns-clause-ok c =
    let options = read_ok (λ v. ReadsText ReadsAsked c.args.options.now (asked_of v)) input.Options
    c.read_options.result _ c.in_ok-asked.ensures c.read_options.ensures.ok in
    let claims = read_ok (λ v. ReadsClaimsText c.args.claims.now (view v)) input.Claims c.read_claims.result _
    c.in_ok-claims.ensures c.read_claims.ensures.ok in
    on_ok_weaker c.check_rules-checked.result (of_read (asked_of c.in_ok-asked.asked) (view c.in_ok-claims.claims) c.args.options.now
    c.args.claims.now c.args.time options claims (Returns [])) c.check_rules-checked.ensures.ok

pub returns-clause-err : goal.returns-clause-err
returns-clause-err c =
    let options = read_ok (λ v. ReadsText ReadsAsked c.args.options.now (asked_of v)) input.Options
    c.read_options.result _ c.in_ok-asked.ensures c.read_options.ensures.ok in
    let claims = read_ok (λ v. ReadsClaimsText c.args.claims.now (view v)) input.Claims c.read_claims.result _
    c.in_ok-claims.ensures c.read_claims.ensures.ok in
    IfErr-weaker c.check_rules-checked.result _ _ (λ r. of_read (asked_of c.in_ok-asked.asked) (view c.in_ok-claims.claims)
    c.args.options.now c.args.claims.now c.args.time options claims (answer_of r)) c.check_rules-checked.ensures.err
