use Rattle.std.proofs.Common.{refl}
use Rattle.jsonwebtoken.specs.Calls.{Carries}
use Rattle.jsonwebtoken.specs.Tests.{insecure_order, insecure_call, token_tests}
use Rattle.jsonwebtoken.proofs.EachTest.{decides, same_answer}
use Rattle.jsonwebtoken.proofs.Exits.{without}
use Rattle.jsonwebtoken.proofs.dangerous.insecure_decode.Goals as goal

pub returns : goal.returns
returns g c =
    let call = insecure_call c.args.token.now g.T.Claims.reads in
    let decided = decides call insecure_order refl (Carries call) c.insecure_decode_by_steps.result
    c.insecure_decode_by_steps.ensures
    (same_answer call insecure_order refl refl (λ r. r.header) (λ r v. g.T.Claims.reads v r.claims)) in
    without (token_tests call) insecure_order (Carries call) c.insecure_decode_by_steps.result _ c.without_test.ensures decided
