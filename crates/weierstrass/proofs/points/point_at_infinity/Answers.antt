use Rattle.weierstrass.specs.Weierstrass.{infinity}
use Rattle.weierstrass.specs.Numbers.{numbers}
use Rattle.weierstrass.proofs.points.point_at_infinity.Goals as goal

pub returns : goal.returns
unfolding infinity numbers
returns g c = cc
