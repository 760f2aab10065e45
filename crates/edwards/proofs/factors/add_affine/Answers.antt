use Rattle.edwards.specs.Factors.{sum_with, factor_numbers, affine_numbers}
use Rattle.edwards.specs.Numbers.{numbers}
use Rattle.edwards.proofs.Ones.{times_two}
use Rattle.edwards.proofs.factors.add_affine.Goals as goal

pub returns : goal.returns
unfolding sum_with factor_numbers affine_numbers numbers
returns g c = let two = times_two g.F.Residue.modulus (g.F.Residue.number c.args.point.z) in cc
