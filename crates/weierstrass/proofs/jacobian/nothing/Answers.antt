use Rattle.weierstrass.specs.Numbers.{numbers}
use Rattle.weierstrass.proofs.jacobian.nothing.Goals as goal

pub returns : goal.returns
unfolding numbers
returns g c = cc
