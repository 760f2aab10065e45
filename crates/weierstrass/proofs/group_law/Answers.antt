use Rattle.weierstrass.proofs.Groups.{group}
use Rattle.weierstrass.proofs.group_law.Goals as goal

pub returns : goal.returns
returns c = group
