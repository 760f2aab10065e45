use Rattle.std.proofs.Common.{inr}
use Rattle.std.proofs.lemmas.Result.{err_from_is_err_and}
use Rattle.jwt_c_calls.proofs.by_signature.attach_by.Goals as goal

pub returns-in_err-check-clause-err : goal.returns-in_err-check-clause-err
returns-in_err-check-clause-err c =
    let p = err_from_is_err_and c.from_residual-in_err-check.result c.from_residual-in_err-check.ensures.1 in
    rw (p.1, p.2) (inr (c.in_ok-attached.attached.algorithm, c.in_ok-attached.ensures.ok.0, c.in_err-check.ensures.err))
