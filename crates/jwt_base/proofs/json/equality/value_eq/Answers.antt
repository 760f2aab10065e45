use Rattle.serde_json.specs.View.{view}
use Rattle.jwt_base.specs.equality.DataEqLaws.{data_decides}
use Rattle.jwt_base.proofs.json.equality.value_eq.Goals as goal

pub returns-clause-same : goal.returns-clause-same
returns-clause-same c = rw c.same_values.ensures (data_decides (view c.args.a.now) (view c.args.b.now))
