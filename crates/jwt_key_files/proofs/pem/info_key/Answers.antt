use Rattle.std.proofs.Common.{inl, inr}
use Rattle.std.proofs.lemmas.Result.{err_from_is_err_and}
use Rattle.jwt_key_files.proofs.PemKeys.{refused_info, info_only}
use Rattle.jwt_key_files.proofs.pem.info_key.Goals as goal

pub returns-in_err-key-clause-err : goal.returns-in_err-key-clause-err
returns-in_err-key-clause-err c =
    let p = err_from_is_err_and c.from_residual.result c.from_residual.ensures.1 in
    rw (p.1, p.2) (elim c.in_err-key.ensures.err [ inl m ↦ inl m | inr w ↦ inr (refused_info _ _ _ _ c.in-Some.ensures w) ])

pub returns-clause-ok : goal.returns-clause-ok
returns-clause-ok c = info_only _ _ _ _ c.in-Some.ensures c.in_ok-key.ensures.ok
