use Rattle.serde_json.specs.View.{view}
use Rattle.jwt_base.specs.Kind as kind
use Rattle.jsonwebtoken.specs.Tests.{ClaimsMatchType}
use Rattle.jsonwebtoken.proofs.Exits.{finds}
use Rattle.jsonwebtoken.proofs.decoding.steps.claims_of_value.Goals as goal

pub returns : goal.returns
returns g c = finds ClaimsMatchType (λ y. g.T.Claims.reads (view c.args.value) y) _ kind.Json
    c.from_owned.result _ c.with_test.ensures c.from_owned.ensures.ok c.from_owned.ensures.err
