use Rattle.weierstrass.specs.Numbers.{numbers}
use Rattle.weierstrass.specs.private_clauses.Formulas.{jacobian_last}
use Rattle.weierstrass.proofs.jacobian.last.Goals as goal

pub returns : goal.returns
unfolding jacobian_last numbers
returns g c = cc
