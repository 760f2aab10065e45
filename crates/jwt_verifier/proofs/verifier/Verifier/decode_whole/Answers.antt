-- The order of the tests by the source of the ring's keys is that of `decode` or of `decode_with_set`.
use Rattle.std.proofs.Common.{List, ℕ, subst}
use Rattle.jsonwebtoken.specs.Calls.{Carries}
use Rattle.jsonwebtoken.specs.Family.{with_family}
use Rattle.jsonwebtoken.specs.Laws.{HasLaws}
use Rattle.jsonwebtoken.specs.Refused.{DecidesByTest}
use Rattle.jsonwebtoken.specs.Tests.{Compact, token_tests}
use Rattle.jsonwebtoken.specs.declared.refusal.Test.{Test}
use Rattle.jwt_verifier.specs.Verifying.{call_with}
use Rattle.jwt_verifier.proofs.OrderLemmas.{same_order}
use Rattle.jwt_verifier.proofs.verifier.Verifier.decode_whole.Goals as goal

pub returns-clause-decided : goal.returns-clause-decided
returns-clause-decided g c f is =
    let call = with_family
    (call_with g.T.Claims c.args.self.now.keys.keys c.args.self.now.validation c.args.token.now c.args.time) f in
    subst (λ (order : List Test). DecidesByTest (token_tests call) order (Carries call) c.decode_by_family.result)
    (same_order c.args.self.now.keys.keys) (c.decode_by_family.ensures.decided f is)

pub returns-clause-one_family : goal.returns-clause-one_family
returns-clause-one_family g c one =
    let call = call_with g.T.Claims c.args.self.now.keys.keys c.args.self.now.validation c.args.token.now c.args.time in
    subst (λ (order : List Test). DecidesByTest (token_tests call) order (Carries call) c.decode_by_family.result)
    (same_order c.args.self.now.keys.keys) (c.decode_by_family.ensures.one_family one)

pub returns-clause-laws : goal.returns-clause-laws
returns-clause-laws g c f =
    let call = with_family
    (call_with g.T.Claims c.args.self.now.keys.keys c.args.self.now.validation c.args.token.now c.args.time) f in
    subst (λ (order : List Test). HasLaws call order (List ℕ) Compact c.args.token.now)
    (same_order c.args.self.now.keys.keys) (c.decode_by_family.ensures.laws f)
