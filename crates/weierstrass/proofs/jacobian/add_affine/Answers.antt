use Rattle.std.proofs.Common.{◌≡◌, sym, ◌∙◌, arith}
use Rattle.weierstrass.specs.Weierstrass.{Point}
use Rattle.weierstrass.specs.Numbers.{numbers}
use Rattle.weierstrass.specs.Group.{spot_point}
use Rattle.weierstrass.proofs.JacobianLaw.{is_second, is_finite}
use Rattle.weierstrass.proofs.jacobian.add_affine.Goals as goal

pub returns-then-is_same : goal.returns-then-is_same
unfolding numbers
returns-then-is_same g c =
    let n = g.F.Residue.number in
    let K : Point = spot_point (n c.args.x) (n c.args.y) in
    let second = is_second g.F.Residue.modulus (numbers n c.args.start) K (c.is_same.ensures.0 c.if-is_same.true
    ∙ c.zero.ensures) in
    rw c.one.ensures second

pub returns : goal.returns
unfolding numbers
returns g c =
    let n = g.F.Residue.number in
    let K : Point = spot_point (n c.args.x) (n c.args.y) in
    c.add_finite_affine.ensures
    ∙ is_finite g.F.Residue.modulus (numbers n c.args.start) K (λ e. let f = c.is_same.ensures.1 (e ∙ sym c.zero.ensures) in cc)
    (λ e. let f : 1 ≡ 0 = e in omega arith)
