use Rattle.std.proofs.Common.{inl}
use Rattle.std.proofs.lemmas.Result.{err_from_is_err_and}
use Rattle.jsonwebtoken.proofs.Exits.{or_memory}
use Rattle.jwt_tool_command.proofs.Calls.{set_claims_passed, set_claims_failed}
use Rattle.jwt_tool_command.proofs.run.set_claims_value.Goals as goal

pub returns-in_err-keys-clause-err : goal.returns-in_err-keys-clause-err
returns-in_err-keys-clause-err c =
    let p = err_from_is_err_and c.from_residual.result c.from_residual.ensures.1 in
    rw (p.1, p.2) (or_memory (λ f. inl f) (rw c.as_bytes.ensures.value at c.in_err-keys.ensures.err))

pub returns-in_err-data-clause-err : goal.returns-in_err-data-clause-err
returns-in_err-data-clause-err c =
    let p = err_from_is_err_and c.from_residual-in_err-data.result c.from_residual-in_err-data.ensures.1 in
    rw (p.1, p.2) (or_memory (set_claims_failed _ c.args.algorithm _ c.args.time _ _ _
    (rw c.as_bytes.ensures.value at c.in_ok-keys.ensures.ok) c.in_ok-rules.ensures.ok)
    c.in_err-data.ensures.decided.refused)

pub returns-clause-ok : goal.returns-clause-ok
returns-clause-ok c =
    set_claims_passed _ c.args.algorithm _ c.args.time _ _ _ _ (rw c.as_bytes.ensures.value at c.in_ok-keys.ensures.ok)
    c.in_ok-rules.ensures.ok c.in_ok-data.ensures.decided.accepted
