use Rattle.std.proofs.Common.{⊎_elim, inl, inr}
use Rattle.jwt_command.proofs.keys.jwk.jwk_answer.Goals as goal

pub returns-in-Err-clause-err : goal.returns-in-Err-clause-err
returns-in-Err-clause-err c = ⊎_elim (λ m. inl (c.not_pem.ensures m)) (λ r. inr (_, r)) c.in-Err.ensures.err
