use Rattle.serde_json.specs.View.{members_view}
use Rattle.jwt_base.specs.equality.DataEqLaws.{members_decides}
use Rattle.jwt_base.proofs.json.equality.members_are_equal.Goals as goal

pub returns-clause-same : goal.returns-clause-same
returns-clause-same c = rw c.same_members.ensures (members_decides (members_view c.args.a.now.entries)
    (members_view c.args.b.now.entries))
