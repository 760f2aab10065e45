use Rattle.std.proofs.Common.{◌≡◌, sym, ◌∙◌}
use Rattle.weierstrass.specs.Weierstrass.{Point}
use Rattle.weierstrass.specs.Numbers.{numbers}
use Rattle.weierstrass.specs.Group.{spot_point}
use Rattle.weierstrass.proofs.Affine.{times_one, times_square, times_cube}
use Rattle.weierstrass.proofs.JacobianLaw.{h_of, r_of, last_of, is_double, is_none, is_last}
use Rattle.weierstrass.proofs.jacobian.add_finite_affine.Goals as goal

pub returns-then-is_same-2 : goal.returns-then-is_same-2
unfolding numbers h_of r_of
returns-then-is_same-2 g c =
    let n = g.F.Residue.number in
    let p = g.F.Residue.modulus in
    let J = numbers n c.args.start in
    let K : Point = spot_point (n c.args.x) (n c.args.y) in
    let u = times_square p (n c.args.start.x) g.met.F.Residue.modulus_above (g.met.F.Residue.number_below c.args.start.x) in
    let s = times_cube p (n c.args.start.y) g.met.F.Residue.modulus_above (g.met.F.Residue.number_below c.args.start.y) in
    let h : n c.minus-h.result ≡ h_of p J K = cc in
    let r : n c.minus-r.result ≡ r_of p J K = cc in
    let hz : n c.minus-h.result ≡ 0 = c.is_same.ensures.0 c.if-is_same.true ∙ c.zero.ensures in
    let rz : n c.minus-r.result ≡ 0 = c.is_same-then-is_same.ensures.0 c.if-is_same-2.true ∙ c.zero-then-is_same.ensures in
    c.double.ensures ∙ is_double p J K (sym h ∙ hz) (sym r ∙ rz)

pub returns-then-is_same : goal.returns-then-is_same
unfolding numbers h_of r_of
returns-then-is_same g c =
    let n = g.F.Residue.number in
    let p = g.F.Residue.modulus in
    let J = numbers n c.args.start in
    let K : Point = spot_point (n c.args.x) (n c.args.y) in
    let u = times_square p (n c.args.start.x) g.met.F.Residue.modulus_above (g.met.F.Residue.number_below c.args.start.x) in
    let s = times_cube p (n c.args.start.y) g.met.F.Residue.modulus_above (g.met.F.Residue.number_below c.args.start.y) in
    let h : n c.minus-h.result ≡ h_of p J K = cc in
    let r : n c.minus-r.result ≡ r_of p J K = cc in
    let hz : n c.minus-h.result ≡ 0 = c.is_same.ensures.0 c.if-is_same.true ∙ c.zero.ensures in
    c.nothing.ensures
    ∙ is_none p J K (sym h ∙ hz) (λ e. let f = c.is_same-then-is_same.ensures.1 (r ∙ e ∙ sym c.zero-then-is_same.ensures) in cc)

pub returns : goal.returns
unfolding numbers h_of r_of last_of
returns g c =
    let n = g.F.Residue.number in
    let p = g.F.Residue.modulus in
    let J = numbers n c.args.start in
    let K : Point = spot_point (n c.args.x) (n c.args.y) in
    let z = times_one p (n c.args.start.z) (g.met.F.Residue.number_below c.args.start.z) in
    let u = times_square p (n c.args.start.x) g.met.F.Residue.modulus_above (g.met.F.Residue.number_below c.args.start.x) in
    let s = times_cube p (n c.args.start.y) g.met.F.Residue.modulus_above (g.met.F.Residue.number_below c.args.start.y) in
    let h : n c.minus-h.result ≡ h_of p J K = cc in
    let made : numbers n c.last.result ≡ last_of p J K = cc in
    made ∙ is_last p J K (λ e. let f = c.is_same.ensures.1 (h ∙ e ∙ sym c.zero.ensures) in cc)
