use Rattle.edwards.specs.Numbers.{numbers}
use Rattle.edwards.specs.Group.{negative_of}
use Rattle.ed25519.proofs.joint.negative.Goals as goal

pub returns : goal.returns
unfolding negative_of numbers
returns g c = cc (g.met.F.Field.is_field)
