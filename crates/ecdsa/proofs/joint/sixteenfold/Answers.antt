use Rattle.std.proofs.Common.{ap, ◌∙◌}
use Rattle.weierstrass.specs.Numbers.{numbers}
use Rattle.weierstrass.specs.private_clauses.Formulas.{jacobian_double}
use Rattle.weierstrass.proofs.JacobianWindows.{sixteen_joint}
use Rattle.ecdsa.proofs.joint.sixteenfold.Goals as goal

pub returns : goal.returns
returns g c = λ P m n h.
    let p = g.F.Residue.modulus in
    let doubles = c.double-4.ensures ∙ ap (jacobian_double p) (c.double-3.ensures
    ∙ ap (jacobian_double p) (c.double-2.ensures ∙ ap (jacobian_double p) c.double.ensures)) in
    sixteen_joint p g.F.BaseMultiples.b m n g.F.BaseMultiples.base P (numbers g.F.Residue.number c.args.start) _ h doubles
