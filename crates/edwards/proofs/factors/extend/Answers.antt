use Rattle.edwards.specs.Edwards.{products}
use Rattle.edwards.specs.Factors.{factor_numbers}
use Rattle.edwards.specs.Numbers.{numbers}
use Rattle.edwards.proofs.factors.extend.Goals as goal

pub returns : goal.returns
unfolding products factor_numbers numbers
returns g c = cc
