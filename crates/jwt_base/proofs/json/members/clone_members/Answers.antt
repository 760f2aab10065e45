use Rattle.jwt_base.proofs.Copies.{members_view-copy}
use Rattle.jwt_base.proofs.json.members.clone_members.Goals as goal

pub returns-clause-ok : goal.returns-clause-ok
returns-clause-ok c = members_view-copy c.args.members.now.entries c.in_ok-copy.copy.entries c.in_ok-copy.ensures.cases
