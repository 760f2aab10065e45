use Rattle.std.proofs.Common.{rules}
use Rattle.std.proofs.lemmas.Result.{err_from_is_err_and}
use Rattle.jwt_base.proofs.Readings.{weaker}
use Rattle.jwt_c_calls.proofs.asked.options_of_value.Goals as goal

pub returns-in_err-further-clause-err : goal.returns-in_err-further-clause-err
returns-in_err-further-clause-err c =
    let p = err_from_is_err_and c.from_residual.result c.from_residual.ensures.1 in
    rw (p.1, p.2) (weaker _ _ _ (λ none a r. none a.further r.further) c.in_err-further.ensures.err)

pub returns-in_err-validation-clause-err : goal.returns-in_err-validation-clause-err
returns-in_err-validation-clause-err c =
    let p = err_from_is_err_and c.from_residual-in_err-validation.result c.from_residual-in_err-validation.ensures.1 in
    rw (p.1, p.2) (weaker _ _ _ (λ none a r. none a.usual (rw c.in_ok-usual.ensures.ok r.usual)) c.in_err-validation.ensures.err)

pub returns-clause-ok : goal.returns-clause-ok
returns-clause-ok c = record {
  no_empty = search rules;
  further = c.in_ok-further.ensures.ok;
  usual = rw c.in_ok-usual.ensures.ok at c.in_ok-validation.ensures.ok;
}
