use Rattle.std.proofs.Common.{refl}
use Rattle.jsonwebtoken.specs.Calls.{HasClaims}
use Rattle.jsonwebtoken.specs.Tests.{insecure_claims_order, insecure_call, token_tests}
use Rattle.jsonwebtoken.proofs.EachTest.{decides, same_claims}
use Rattle.jsonwebtoken.proofs.Exits.{without}
use Rattle.jsonwebtoken.proofs.dangerous.insecure_decode_claims.Goals as goal

pub returns : goal.returns
returns g c =
    let call = insecure_call c.args.token.now g.T.Claims.reads in
    let decided = decides call insecure_claims_order refl (HasClaims call) c.insecure_decode_claims_by_steps.result
    c.insecure_decode_claims_by_steps.ensures
    (λ s t y p q e. rw (← same_claims call insecure_claims_order s t p q refl) e) in
    without (token_tests call) insecure_claims_order (HasClaims call) c.insecure_decode_claims_by_steps.result _
    c.without_test.ensures decided
