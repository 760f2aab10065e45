use Rattle.std.proofs.Common.{◌≡◌, ◌+◌, subst, arith}
use Rattle.weierstrass.specs.Numbers.{numbers}
use Rattle.weierstrass.specs.private_clauses.Formulas.{IsJointOf}
use Rattle.weierstrass.proofs.JacobianWindows.{first_joint}
use Rattle.ecdsa.proofs.joint.add_of_base.Goals as goal

pub returns-then-digit-eq0 : goal.returns-then-digit-eq0
returns-then-digit-eq0 g c = λ P m n h.
    let e : m ≡ m + c.args.digit = let z = c.if-digit-eq0.true in omega arith in
    subst (λ x. IsJointOf g.F.Residue.modulus g.F.BaseMultiples.b x g.F.BaseMultiples.base n P
    (numbers g.F.Residue.number c.args.start)) e h

pub returns : goal.returns
returns g c = λ P m n h.
    first_joint g.F.Residue.modulus g.F.BaseMultiples.b m n c.args.digit g.F.BaseMultiples.base P _
    (numbers g.F.Residue.number c.args.start) _ h
    c.base_multiple-x.ensures c.add_affine.ensures
