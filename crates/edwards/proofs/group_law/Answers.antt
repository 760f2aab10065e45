use Rattle.edwards.proofs.Groups.{group}
use Rattle.edwards.proofs.group_law.Goals as goal

pub returns : goal.returns
returns c = group
