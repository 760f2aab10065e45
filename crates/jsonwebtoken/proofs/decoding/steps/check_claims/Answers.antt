use Rattle.std.proofs.lemmas.Result.{IfErr-weaker}
use Rattle.serde_json.specs.View.{view}
use Rattle.jwt_validation.specs.OptionsOf.{options_of}
use Rattle.jsonwebtoken.specs.private_clauses.Steps.{ShowsNothing, holding, no_contents, rule_tests, with_value}
use Rattle.jsonwebtoken.proofs.Exits.{last_test, rules_failed, if_ok}
use Rattle.jsonwebtoken.proofs.decoding.steps.check_claims.Goals as goal

pub returns : goal.returns
returns c =
    let o = options_of c.args.validation.now in
    let d = view c.args.claims.now in
    last_test (holding o c.args.time) rule_tests (with_value d) ShowsNothing c.failed_rule.result c.validate.result _
    c.with_test.ensures
    (if_ok c.validate.result c.validate.ensures.ok.0)
    (IfErr-weaker c.validate.result _ _ (λ e f. rules_failed o d c.args.time c.failed_rule.result e c.failed_rule.ensures
    f) c.validate.ensures.err)
    (λ y held. (no_contents, (held.0, (held.1, tt)), tt))
    (λ e f. (no_contents, f))
