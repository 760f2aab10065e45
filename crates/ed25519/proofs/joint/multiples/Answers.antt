use Rattle.std.proofs.Common.{◌≡◌, ◌+◌, ◌≤◌, ◌-◌, ◌∙◌, refl, sym, subst, length-set, arith}
use Rattle.edwards.specs.Factors.{addend_numbers}
use Rattle.edwards.specs.Numbers.{numbers}
use Rattle.edwards.specs.Group.{IsPoint}
use Rattle.ed25519.specs.Ed25519.{p, d}
use Rattle.ed25519.specs.private_clauses.Prepared.{IsMultiple}
use Rattle.ed25519.proofs.Joints.{IsMultiple-none, IsMultiple-step, IsMultiple-at, IsPrepared-by, ArePrepared-more}
use Rattle.ed25519.proofs.joint.multiples.Goals as goal

pub loop-i-init : goal.loop-i-init
loop-i-init g c =
    let n = g.F.Residue.number in
    let f = g.met.F.Field.is_field in
    let P = numbers n c.args.point in
    let none : IsMultiple P 0 (numbers n c.neutral_point-last.result) =
    subst (IsMultiple P 0) (sym c.neutral_point-last.ensures) (IsMultiple-none P) in
    record {
      sized = refl;
      last = λ h. none;
      prepared = λ h j a lt e.
          let z : j ≡ 0 = omega arith in
          let here : a ≡ c.prepare-table.result = rw z at e in
          let all = IsPrepared-by P _ 0 _ none (rw (f, c.twice_curve_d-twice_d.ensures) at c.prepare-table.ensures) in
          rw (z, here) all;
    }

pub loop-i-preserved : goal.loop-i-preserved
loop-i-preserved g c =
    let n = g.F.Residue.number in
    let f = g.met.F.Field.is_field in
    let P = numbers n c.args.point in
    let i = c.loop-i.i in
    let one = rw (f, c.twice_curve_d-twice_d.ensures) at c.prepare-one.ensures in
    let sum = rw f at (c.extend-last.ensures ∙ c.add_to.ensures) in
    let from_one : 1 ≤ i = c.loop-i.auto.i in
    let last = λ (h : IsPoint p d P).
    IsMultiple-step P (numbers n c.loop-i.last) (numbers n c.extend-last.result) (i - 1) i
    (addend_numbers n c.prepare-one.result) (omega arith) h (c.loop-i.invariant.last h) one sum in
    record {
      sized = simp length-set c.loop-i.invariant.sized;
      last = λ h. IsMultiple-at (let e : i ≡ i + 1 - 1 = omega arith in e) (last h);
      prepared = λ h. ArePrepared-more n P i (i + 1) c.loop-i.table c.prepare.result refl (c.loop-i.invariant.prepared h)
          (omega (arith, c.loop-i.invariant.sized, c.loop-i-test.true))
          (IsPrepared-by P (numbers n c.extend-last.result) i (addend_numbers n c.prepare.result) (last h)
          (rw (f, c.twice_curve_d-twice_d.ensures) at c.prepare.ensures));
    }
