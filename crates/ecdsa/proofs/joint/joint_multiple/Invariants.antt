use Rattle.std.proofs.Common.{length, drop, ◌≤◌}
use Rattle.residues.specs.Bytes.{little_endian}
use Rattle.weierstrass.specs.private_clauses.Formulas.{IsJointOf}
use Rattle.weierstrass.specs.Numbers.{numbers}
use Rattle.ecdsa.proofs.joint.joint_multiple.Given as goal

abbrev pub invariant-loop-i : goal.invariant-loop-i
invariant-loop-i g l = record {
  within : l.i ≤ length l.first;
  sum_is : IsJointOf g.F.Residue.modulus g.F.BaseMultiples.b (little_endian (drop l.i l.first)) g.F.BaseMultiples.base
      (little_endian (drop l.i l.second))
      (numbers g.F.Residue.number l.fn.point) (numbers g.F.Residue.number l.result);
}

abbrev pub decreases-loop-i : goal.decreases-loop-i
decreases-loop-i g l = l.i
