use Rattle.std.proofs.Common.{⊎_elim, inl, inr, refl, rules}
use Rattle.jwt_base.specs.Kind as kind
use Rattle.jwt_base.specs.KindOf.{kind_of}
use Rattle.jwt_c_calls.proofs.signatures.check.Goals as goal

pub returns-then-not-is_listed-clause-err : goal.returns-then-not-is_listed-clause-err
returns-then-not-is_listed-clause-err c = (kind.InvalidAlgorithm, inr (inl (refl, search rules)), refl)

pub returns-in-Ok-clause-ok : goal.returns-in-Ok-clause-ok
returns-in-Ok-clause-ok c = (search rules, c.in-Ok.ensures.ok)

pub returns-in-Err-clause-err : goal.returns-in-Err-clause-err
returns-in-Err-clause-err c =
    (kind_of c.in-Err.refused, ⊎_elim (λ m. inl m) (λ r. inr (inr (search rules, r))) c.in-Err.ensures.err, search rules)
