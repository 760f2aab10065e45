use Rattle.std.proofs.Common.{inl, inr, refl}
use Rattle.std.proofs.lemmas.Result.{err_from_is_err_and}
use Rattle.jwt_keys.specs.Key.{Components}
use Rattle.jwt_key_files.proofs.public_key.bare_key.Goals as goal

pub returns-in_err-key-clause-err : goal.returns-in_err-key-clause-err
returns-in_err-key-clause-err c =
    let p = err_from_is_err_and c.from_residual-in_err-key.result c.from_residual-in_err-key.ensures.1 in
    let e = c.in-Some.ensures in
    rw (p.1, p.2) (elim c.in_err-key.ensures.err [
      | inl m ↦ inl m
      | inr w ↦ absurd (w.1 (Components c.in-Some.field-0.0.now c.in-Some.field-0.1.now) (_, (_, (refl, e.0, e.1, e.2))))
    ])
