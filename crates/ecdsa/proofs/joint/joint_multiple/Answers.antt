use Rattle.std.proofs.Common.{◌≡◌, ℕ, ◌+◌, ◌-◌, ◌*◌, ◌/◌, ◌%◌, ◌<◌, length, drop, get_or, sym, ap, ◌∙◌, arith}
use Rattle.residues.proofs.Numbers.{little_endian-drop, little_endian-drop_all}
use Rattle.residues.specs.Bytes.{little_endian}
use Rattle.weierstrass.specs.Weierstrass.{Point}
use Rattle.weierstrass.specs.Numbers.{numbers}
use Rattle.weierstrass.specs.Group.{spot_point}
use Rattle.weierstrass.specs.Jacobian.{IsMultiple}
use Rattle.weierstrass.specs.private_clauses.Entries.{entry_of}
use Rattle.weierstrass.specs.private_clauses.Formulas.{jacobian_times}
use Rattle.weierstrass.proofs.JacobianWindows.{times_multiple, joint_at, none_joint_of, joint_by}
use Rattle.ecdsa.proofs.joint.joint_multiple.Goals as goal

-- a byte by its halves
halves : (m m' x : ℕ) → m' ≡ x + 256 * m → 16 * (16 * m + x / 16) + x % 16 ≡ m'
halves m m' x e = omega arith

z_of : (P : Point) → P ≡ record { x = 1; y = 1; z = 0 } → P.z ≡ 0
z_of P e = ap (λ (Q : Point). Q.z) e

spot_is : (P : Point) → P.z ≡ 1 → spot_point P.x P.y ≡ P
spot_is P e = ap (λ z. record { x = P.x; y = P.y; z = z }) (sym e)

pub loop-i-init : goal.loop-i-init
loop-i-init g c =
    let n = g.F.Residue.number in
    let u = c.args.first.now in
    let v = c.args.second.now in
    let same : length u ≡ length v = c.requires.lengths in
    record {
      within = omega arith;
      sum_is = none_joint_of g.F.Residue.modulus g.F.BaseMultiples.b (little_endian (drop (length u) u))
          (little_endian (drop (length u) v))
          g.F.BaseMultiples.base (numbers n c.args.point) (numbers n c.nothing-result.result)
          (little_endian-drop_all u (length u) (omega arith)) (little_endian-drop_all v (length u) (omega arith))
          (z_of (numbers n c.nothing-result.result) c.nothing-result.ensures);
    }

pub loop-i-preserved : goal.loop-i-preserved
unfolding numbers
loop-i-preserved g c =
    let n = g.F.Residue.number in
    let p = g.F.Residue.modulus in
    let b = g.F.BaseMultiples.b in
    let P = numbers n c.args.point in
    let u = c.args.first.now in
    let v = c.args.second.now in
    let same : length u ≡ length v = c.requires.lengths in
    let i = c.loop-i.i in
    let x = get_or u (i - 1) 0 in
    let y = get_or v (i - 1) 0 in
    let m = little_endian (drop i u) in
    let k = little_endian (drop i v) in
    let others : (j : ℕ) → j < 16 → IsMultiple p b j P (numbers n (entry_of c.entries-others.result j).point) =
    λ j l. times_multiple p b j P (numbers n (entry_of c.entries-others.result j).point) c.requires.affine
    (c.entries-others.ensures.sums j l ∙ ap (jacobian_times p j) (spot_is P c.requires.affine)) in
    let one = c.step-result.ensures P m k others c.loop-i.invariant.sum_is in
    let two = c.step-result-in-loop-i.ensures P (16 * m + x / 16) (16 * k + y / 16) others one in
    record {
      within = omega arith;
      sum_is = joint_at p b (16 * (16 * m + x / 16) + x % 16) (16 * (16 * k + y / 16) + y % 16)
          (little_endian (drop (i - 1) u)) (little_endian (drop (i - 1) v))
          g.F.BaseMultiples.base P (numbers n c.step-result-in-loop-i.result)
          (halves m (little_endian (drop (i - 1) u)) x (little_endian-drop u (i - 1) i (omega arith) (omega arith)))
          (halves k (little_endian (drop (i - 1) v)) y (little_endian-drop v (i - 1) i (omega arith) (omega arith))) two;
    }

pub returns : goal.returns
returns g c =
    let n = g.F.Residue.number in
    let u = c.args.first.now in
    let v = c.args.second.now in
    let z : c.loop-i.i ≡ 0 = omega arith in
    joint_by g.F.Residue.modulus g.F.BaseMultiples.b u v g.F.BaseMultiples.base (numbers n c.args.point)
    (numbers n c.loop-i.result) (numbers n c.projective.result)
    (λ j. omega (arith, c.type_inv.first j)) (λ j. omega (arith, c.type_inv.second j)) c.requires.lengths c.projective.ensures
    (rw z at c.loop-i.invariant.sum_is)
