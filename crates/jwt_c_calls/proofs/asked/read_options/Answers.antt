use Rattle.std.proofs.lemmas.Result.{err_from_is_err_and, IfErr-weaker}
use Rattle.jwt_base.proofs.Readings.{no_json, no_value}
use Rattle.jwt_c_calls.specs.Asked.{ReadsAsked}
use Rattle.jwt_c_calls.proofs.asked.read_options.Goals as goal

pub returns-in_err-value-clause-err : goal.returns-in_err-value-clause-err
returns-in_err-value-clause-err c =
    let p = err_from_is_err_and c.from_residual.result c.from_residual.ensures.1 in
    rw (p.1, p.2) (no_json ReadsAsked _ _ c.in_err-value.ensures.err)

pub returns-clause-err : goal.returns-clause-err
returns-clause-err c = IfErr-weaker c.options_of_value.result _ _
    (λ e f. no_value ReadsAsked _ e _ c.in_ok-value.ensures.ok f) c.options_of_value.ensures.err
