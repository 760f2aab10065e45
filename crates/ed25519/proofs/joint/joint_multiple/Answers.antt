use Rattle.std.proofs.Common.{◌≡◌, ◌%◌, ◌-◌, ◌≤◌, drop, get_or, sym, subst, arith}
use Rattle.residues.specs.Bytes.{little_endian}
use Rattle.residues.proofs.Numbers.{little_endian-drop, little_endian-drop_all}
use Rattle.edwards.specs.Numbers.{numbers}
use Rattle.edwards.specs.Edwards.{Point}
use Rattle.ed25519.specs.Elements.{whole}
use Rattle.ed25519.specs.Ed25519.{p}
use Rattle.ed25519.specs.Joint.{IsJoint}
use Rattle.ed25519.proofs.Joints.{IsJoint-none, IsJoint-at, by_halves}
use Rattle.ed25519.proofs.joint.joint_multiple.Goals as goal

pub loop-i-init : goal.loop-i-init
loop-i-init c =
    let P : Point = numbers (λ x. whole x % p) c.args.point in
    let a = little_endian-drop_all c.args.first.now 32 (omega (arith, c.requires.first)) in
    let b = little_endian-drop_all c.args.second.now 32 (omega (arith, c.requires.second)) in
    let e = c.neutral_factors-result.ensures in
    record {
      within = omega arith;
      joint = λ h. rw (a, b, e) (IsJoint-none P h);
    }

pub loop-i-preserved : goal.loop-i-preserved
loop-i-preserved c =
    let P : Point = numbers (λ x. whole x % p) c.args.point in
    let i = c.loop-i.i in
    let xs = c.args.first.now in
    let ys = c.args.second.now in
    let inside : i ≤ 32 = c.loop-i.invariant.within in
    let some = c.loop-i-test.true in
    let a = little_endian-drop xs (i - 1) i (omega arith) (omega (arith, c.requires.first)) in
    let b = little_endian-drop ys (i - 1) i (omega arith) (omega (arith, c.requires.second)) in
    record {
      within = omega arith;
      joint = λ h.
          let others = c.multiples-others.ensures h in
          let one = c.step-result.ensures P _ _ others (c.loop-i.invariant.joint h) in
          let two = c.step-result-in-loop-i.ensures P _ _ others one in
          IsJoint-at (by_halves (little_endian (drop i xs)) (get_or xs (i - 1) 0) _ a)
          (by_halves (little_endian (drop i ys)) (get_or ys (i - 1) 0) _ b) two;
    }

pub returns : goal.returns
returns c = λ h.
    let P : Point = numbers (λ x. whole x % p) c.args.point in
    let none : c.loop-i.i ≡ 0 = let z = c.loop-i-test.false in omega arith in
    let all = rw none at (c.loop-i.invariant.joint h) in
    let e = c.extend.ensures in
    subst (IsJoint P (little_endian c.args.first.now) (little_endian c.args.second.now)) (sym e) all
