use Rattle.weierstrass.specs.Numbers.{numbers}
use Rattle.weierstrass.specs.Weierstrass.{double_of, sum_of}
use Rattle.weierstrass.proofs.points.double.Goals as goal

pub returns : goal.returns
unfolding double_of sum_of numbers
returns g c = cc
