use Rattle.std.proofs.Common.{◌+◌, ◌≤◌, ◌-◌, length}
use Rattle.jwt_verifier.specs.PreparedSize.{named_size}
use Rattle.jwt_verifier.specs.RingKeys.{IsIndexUpTo}
use Rattle.jwt_verifier.proofs.key_ring.index.Given as goal

abbrev pub invariant-loop-at : goal.invariant-loop-at
invariant-loop-at l = record {
  within : l.at ≤ length l.keys;
  index : IsIndexUpTo l.keys l.at l.named;
  room : named_size l.named + l.budget.left ≤ l.fn.budget.left;
}

abbrev pub decreases-loop-at : goal.decreases-loop-at
decreases-loop-at l = length l.keys - l.at
