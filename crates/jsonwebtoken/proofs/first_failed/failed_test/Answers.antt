use Rattle.jwt_validation.specs.OptionsOf.{options_of}
use Rattle.jsonwebtoken.specs.Calls.{Carries}
use Rattle.jsonwebtoken.specs.Finder.{order_by}
use Rattle.jsonwebtoken.specs.Finding.{finding}
use Rattle.jsonwebtoken.specs.Tests.{token_tests}
use Rattle.jsonwebtoken.proofs.Exits.{first_failed}
use Rattle.jsonwebtoken.proofs.first_failed.failed_test.Goals as goal

pub returns : goal.returns
returns g c =
    let call = finding g.K.KeyFinder g.T.Claims c.args.keys.now c.args.token.now (options_of c.args.validation.now)
    c.args.time in
    let failed = rw c.err.ensures.value at c.test_of.ensures in
    first_failed (token_tests call) (order_by call.keys) (Carries call) c.decode_by_or_refusal-found.result _ failed
    c.decode_by_or_refusal-found.ensures
