use Rattle.std.proofs.Common.{◌≡◌, ◌-◌, length}
use Rattle.edwards.specs.Numbers.{numbers}
use Rattle.edwards.specs.Group.{IsPoint}
use Rattle.ed25519.specs.Ed25519.{p, d}
use Rattle.ed25519.specs.private_clauses.Prepared.{ArePrepared, IsMultiple}
use Rattle.ed25519.proofs.joint.multiples.Given as goal

abbrev pub invariant-loop-i : goal.invariant-loop-i
invariant-loop-i g l = record {
  sized : length l.table ≡ 16;
  last : IsPoint p d (numbers g.F.Residue.number l.fn.point) → IsMultiple (numbers g.F.Residue.number l.fn.point)
      (l.i - 1) (numbers g.F.Residue.number l.last);
  prepared : IsPoint p d (numbers g.F.Residue.number l.fn.point)
      → ArePrepared g.F.Residue.number (numbers g.F.Residue.number l.fn.point) l.i l.table;
}
