use Rattle.std.proofs.Common.{length, ⊎_elim}
use Rattle.std.proofs.lemmas.Bool.{cases_lt}
use Rattle.jwt_verifier.proofs.verifier.Verifier.decode_or_refusal.Goals as goal

pub returns-in-Ok-clause-decided : goal.returns-in-Ok-clause-decided
returns-in-Ok-clause-decided g c f is = (
  ⊎_elim (λ long. let no = c.if-is_too_long.ensures.1 long in cc) (λ short. short)
      (cases_lt c.args.self.now.limits.max_len (length c.args.token.now)),
  c.in-Ok.ensures.decided f is,
)

pub returns-in-Err-clause-decided : goal.returns-in-Err-clause-decided
returns-in-Err-clause-decided g c f is = (
  ⊎_elim (λ long. let no = c.if-is_too_long.ensures.1 long in cc) (λ short. short)
      (cases_lt c.args.self.now.limits.max_len (length c.args.token.now)),
  c.in-Err.ensures.decided f is,
)
