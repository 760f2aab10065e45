use Rattle.std.proofs.Common.{inr, refl, rules}
use Rattle.jwt_c_calls.proofs.by_signature.attach.Goals as goal

pub returns-clause-err : goal.returns-clause-err
returns-clause-err c = inr (refl, λ a m. let memory = c.in-Err.ensures.err a m in search rules)
