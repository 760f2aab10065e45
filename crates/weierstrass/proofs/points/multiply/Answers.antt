use Rattle.weierstrass.specs.Weierstrass.{products}
use Rattle.weierstrass.specs.Numbers.{numbers}
use Rattle.weierstrass.proofs.points.multiply.Goals as goal

pub returns : goal.returns
unfolding products numbers
returns g c = cc
