use Rattle.std.proofs.lemmas.Option.{same_Some}
use Rattle.std.proofs.Common.{sym, ◌∙◌}
use Rattle.std.proofs.lemmas.Result.{err_from_is_err_and}
use Rattle.jwt_base.proofs.Readings.{weaker}
use Rattle.jwt_validation.proofs.from_json.read_validation.Goals as goal

pub returns-in_err-members-clause-err : goal.returns-in_err-members-clause-err
returns-in_err-members-clause-err c =
    let p = err_from_is_err_and c.from_residual-in_err-members.result c.from_residual-in_err-members.ensures.1 in
    rw (p.1, p.2) (weaker _ _ _ (λ none o r. let same = same_Some _ _ (sym r.at_strict ∙ c.in_ok-is_strict.ensures.ok)
    in none r.members (rw same at r.reads)) c.in_err-members.ensures.err)
