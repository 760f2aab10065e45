use Rattle.residues.specs.Modulo.{times}
use Rattle.weierstrass.specs.Numbers.{numbers}
use Rattle.weierstrass.specs.private_clauses.Formulas.{jacobian_double, jacobian_from}
use Rattle.weierstrass.proofs.Twice.{twice_first, twice_second, twice_twice}
use Rattle.weierstrass.proofs.jacobian.double.Goals as goal

pub returns : goal.returns
unfolding jacobian_double jacobian_from numbers
returns g c =
    let p = g.F.Residue.modulus in
    let x = g.F.Residue.number c.args.point.x in
    let y = g.F.Residue.number c.args.point.y in
    let z = g.F.Residue.number c.args.point.z in
    let gamma = times p y y in
    cc (twice_first p y y, twice_second p x gamma, twice_first p y z, twice_twice p gamma)
