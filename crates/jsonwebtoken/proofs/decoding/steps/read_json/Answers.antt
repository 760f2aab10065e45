use Rattle.serde_json.specs.Data.{Data}
use Rattle.serde_json.specs.View.{view}
use Rattle.jwt_base.specs.JsonText.{IsJson}
use Rattle.jwt_base.specs.Kind as kind
use Rattle.jsonwebtoken.proofs.Exits.{finds}
use Rattle.jsonwebtoken.proofs.decoding.steps.read_json.Goals as goal

pub returns : goal.returns
returns c = finds c.args.test (λ v. IsJson c.args.bytes.now (view v)) ((d : Data) → ¬ IsJson c.args.bytes.now d) kind.Json
    c.json_value.result _ c.with_test.ensures c.json_value.ensures.ok c.json_value.ensures.err
