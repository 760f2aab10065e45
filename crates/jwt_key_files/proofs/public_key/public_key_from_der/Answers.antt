use Rattle.std.proofs.Common.{inl, inr}
use Rattle.std.proofs.lemmas.Result.{err_from_is_err_and}
use Rattle.jwt_key_files.proofs.Identifiers.{refused_rsa, refused_another, refused_key}
use Rattle.jwt_key_files.proofs.OneKey.{one_key, only_key}
use Rattle.jwt_key_files.proofs.public_key.public_key_from_der.Goals as goal

pub returns-in_err-key-clause-err : goal.returns-in_err-key-clause-err
returns-in_err-key-clause-err c =
    let p = err_from_is_err_and c.from_residual.result c.from_residual.ensures.1 in
    rw (p.1, p.2) (elim c.in_err-key.ensures.err [
      | inl m ↦ inl m
      | inr w ↦ inr (refused_rsa _ _ w.1 c.in_default.ensures w.0)
    ])

pub returns-in_default-read_identifier-clause-err :
    goal.returns-in_default-read_identifier-clause-err
returns-in_default-read_identifier-clause-err c =
    inr (refused_another _ _ _ _ c.new_error.ensures.kind c.in-Some.ensures c.in_default-read_identifier.ensures)

pub returns-in_err-key-2-clause-err : goal.returns-in_err-key-2-clause-err
returns-in_err-key-2-clause-err c =
    let p = err_from_is_err_and c.from_residual-in_err-key-2.result c.from_residual-in_err-key-2.ensures.1 in
    rw (p.1, p.2) (elim c.in_err-key-2.ensures.err [
      | inl m ↦ inl m
      | inr w ↦ inr (refused_key _ _ _ _ _ w.0 c.in-Some.ensures c.in-Some-read_identifier.ensures w.1)
    ])

pub returns-in_default-clause-only : goal.returns-in_default-clause-only
returns-in_default-clause-only c = λ k p. one_key _ k _ p (inl c.in_ok-key.ensures.ok)

pub returns-clause-only : goal.returns-clause-only
returns-clause-only c =
    only_key _ _ _ _ _ c.in-Some.ensures c.in-Some-read_identifier.ensures c.in_ok-key-2.ensures.ok
