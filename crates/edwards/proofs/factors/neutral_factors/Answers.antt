use Rattle.std.proofs.Common.{refl}
use Rattle.edwards.specs.Edwards.{neutral, products}
use Rattle.edwards.specs.Factors.{factor_numbers}
use Rattle.edwards.proofs.Ones.{times_one, times_none}
use Rattle.edwards.proofs.factors.neutral_factors.Goals as goal

pub returns : goal.returns
unfolding products factor_numbers neutral
returns g c =
    let m = g.F.Residue.modulus in
    let above = g.met.F.Residue.modulus_above in
    let one = times_one m above in
    let none = times_none m above in
    rw (c.zero.ensures, c.one.ensures, c.one-2.ensures, c.one-3.ensures, one, none) refl
