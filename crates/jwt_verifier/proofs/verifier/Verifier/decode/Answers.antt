use Rattle.std.proofs.Common.{Err, Ok, length, ⊎_elim}
use Rattle.std.proofs.lemmas.Bool.{cases_lt}
use Rattle.jsonwebtoken.specs.Calls.{Carries}
use Rattle.jsonwebtoken.specs.Family.{with_family}
use Rattle.jsonwebtoken.specs.Tests.{token_tests}
use Rattle.jsonwebtoken.specs.declared.refusal.Test.TheVariants.{HasThreeParts}
use Rattle.jsonwebtoken.proofs.Exits.{unnoted}
use Rattle.jwt_verifier.specs.Verifying.{call_with, order_of}
use Rattle.jwt_verifier.proofs.verifier.Verifier.decode.Goals as goal

pub returns-in-Ok-clause-decided : goal.returns-in-Ok-clause-decided
returns-in-Ok-clause-decided g c f is =
    let keys = c.args.self.now.keys.keys in
    let call = with_family (call_with g.T.Claims keys c.args.self.now.validation c.args.token.now c.args.time) f in (
      ⊎_elim (λ long. let no = c.if-is_too_long.ensures.1 long in cc) (λ short. short)
          (cases_lt c.args.self.now.limits.max_len (length c.args.token.now)),
      unnoted (token_tests call) (order_of keys) (Carries call) HasThreeParts (Ok c.in-Ok.decoded) (c.in-Ok.ensures.decided f is),
    )

pub returns-in-Err-clause-decided : goal.returns-in-Err-clause-decided
returns-in-Err-clause-decided g c f is =
    let keys = c.args.self.now.keys.keys in
    let call = with_family (call_with g.T.Claims keys c.args.self.now.validation c.args.token.now c.args.time) f in (
      ⊎_elim (λ long. let no = c.if-is_too_long.ensures.1 long in cc) (λ short. short)
          (cases_lt c.args.self.now.limits.max_len (length c.args.token.now)),
      unnoted (token_tests call) (order_of keys) (Carries call) c.in-Err.refused.test (Err c.in-Err.refused.error)
          (c.in-Err.ensures.decided f is),
    )
