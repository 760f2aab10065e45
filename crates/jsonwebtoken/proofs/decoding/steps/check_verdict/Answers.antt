use Rattle.std.proofs.Common.{inl}
use Rattle.std.proofs.lemmas.Result.{err_from_is_err_and}
use Rattle.jsonwebtoken.proofs.Exits.{memory_of}
use Rattle.jsonwebtoken.proofs.decoding.steps.check_verdict.Goals as goal

pub returns-in_err-with_test : goal.returns-in_err-with_test
returns-in_err-with_test g c =
    let p = err_from_is_err_and c.from_residual.result c.from_residual.ensures.1 in
    rw (p.1, p.2) (inl (memory_of _ c.verify-verdict.result _ c.in_err-with_test.ensures c.verify-verdict.ensures.memory))
