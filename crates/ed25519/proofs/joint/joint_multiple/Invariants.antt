use Rattle.std.proofs.Common.{◌≤◌, ◌%◌, drop}
use Rattle.residues.specs.Bytes.{little_endian}
use Rattle.edwards.specs.Factors.{factor_numbers}
use Rattle.edwards.specs.Numbers.{numbers}
use Rattle.edwards.specs.Group.{IsPoint}
use Rattle.ed25519.specs.Elements.{whole}
use Rattle.ed25519.specs.Ed25519.{p, d}
use Rattle.ed25519.specs.Joint.{IsJoint}
use Rattle.ed25519.proofs.joint.joint_multiple.Given as goal

abbrev pub invariant-loop-i : goal.invariant-loop-i
invariant-loop-i l = record {
  within : l.i ≤ 32;
  joint : IsPoint p d (numbers (λ x. whole x % p) l.fn.point)
      → IsJoint (numbers (λ x. whole x % p) l.fn.point) (little_endian (drop l.i l.first)) (little_endian (drop l.i l.second))
      (factor_numbers (λ x. whole x % p) p l.result);
}

abbrev pub decreases-loop-i : goal.decreases-loop-i
decreases-loop-i l = l.i
