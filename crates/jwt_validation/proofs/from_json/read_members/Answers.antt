use Rattle.std.proofs.lemmas.Result.{err_from_is_err_and}
use Rattle.jwt_base.proofs.Readings.{weaker}
use Rattle.jwt_validation.proofs.from_json.read_members.Goals as goal

pub returns-in_err-times-clause-err : goal.returns-in_err-times-clause-err
returns-in_err-times-clause-err c =
    let p = err_from_is_err_and c.from_residual.result c.from_residual.ensures.1 in
    rw (p.1, p.2) (weaker _ _ _ (λ none o r. none _ _ _ _ _ r.times) c.in_err-times.ensures.err)

pub returns-clause-ok : goal.returns-clause-ok
returns-clause-ok c = record {
  times = c.in_ok-times.ensures.ok;
  required = c.in_ok-required_spec_claims.ensures.ok;
  aud = c.in_ok-aud.ensures.ok;
  iss = c.in_ok-iss.ensures.ok;
  sub = c.in_ok-sub.ensures.ok;
  algorithms = c.in_ok-algorithms.ensures.ok;
  understood = c.in_ok-understood_crit.ensures.ok;
}
