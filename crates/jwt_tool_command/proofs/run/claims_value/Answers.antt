use Rattle.std.proofs.Common.{◌∙◌, ap}
use Rattle.std.proofs.lemmas.Result.{err_from_is_err_and}
use Rattle.jsonwebtoken.proofs.Exits.{or_memory}
use Rattle.jwt_base.specs.declared.algorithms.AlgorithmFamily.TheVariants.{Hmac}
use Rattle.jwt_keys.specs.Key.{Plain}
use Rattle.jwt_tool_command.proofs.Calls.{claims_passed, claims_failed}
use Rattle.jwt_tool_command.proofs.run.claims_value.Goals as goal

pub returns-in_err-data-clause-err : goal.returns-in_err-data-clause-err
returns-in_err-data-clause-err c =
    let p = err_from_is_err_and c.from_residual-in_err-data.result c.from_residual-in_err-data.ensures.1 in
    rw (p.1, p.2) (or_memory (claims_failed _ c.args.algorithm c.args.secret.now c.args.time _ _ _
    (c.in_ok-key.ensures.ok ∙ ap (Plain Hmac) c.as_bytes.ensures.value) c.in_ok-validation.ensures.ok)
    c.in_err-data.ensures.decided.refused)

pub returns-clause-ok : goal.returns-clause-ok
returns-clause-ok c =
    claims_passed _ c.args.algorithm c.args.secret.now c.args.time _ _ _ _ (c.in_ok-key.ensures.ok
    ∙ ap (Plain Hmac) c.as_bytes.ensures.value) c.in_ok-validation.ensures.ok c.in_ok-data.ensures.decided.accepted
