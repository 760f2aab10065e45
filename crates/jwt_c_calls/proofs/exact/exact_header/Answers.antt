use Rattle.std.proofs.lemmas.Result.{err_from_is_err_and}
use Rattle.jwt_base.proofs.Readings.{no_json, no_value, weaker}
use Rattle.jwt_header.specs.Header.{ReadsHeader}
use Rattle.jwt_c_calls.proofs.exact.exact_header.Goals as goal

pub returns-in_err-value-clause-err : goal.returns-in_err-value-clause-err
returns-in_err-value-clause-err c =
    let p = err_from_is_err_and c.from_residual.result c.from_residual.ensures.1 in
    rw (p.1, p.2) (weaker _ _ _ (λ none h r. none h r.0) (no_json ReadsHeader _ _ c.in_err-value.ensures.err))

pub returns-in_err-header-clause-err : goal.returns-in_err-header-clause-err
returns-in_err-header-clause-err c =
    let p = err_from_is_err_and c.from_residual-in_err-header.result c.from_residual-in_err-header.ensures.1 in
    rw (p.1, p.2) (weaker _ _ _ (λ none h r. none h r.0)
    (no_value ReadsHeader _ _ _ c.in_ok-value.ensures.ok c.in_err-header.ensures.err))
