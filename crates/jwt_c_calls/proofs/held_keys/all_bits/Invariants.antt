use Rattle.std.proofs.Common.{◌≡◌, ◌≤◌, drop, length}
use Rattle.jwt_c_calls.specs.KeyInfos.{all_bits}
use Rattle.jwt_c_calls.proofs.held_keys.all_bits.Given as goal

abbrev pub invariant-loop-at : goal.invariant-loop-at
invariant-loop-at l = (l.bits ≡ all_bits l.is_set (drop l.at l.items)) × (l.at ≤ length l.items)

abbrev pub decreases-loop-at : goal.decreases-loop-at
decreases-loop-at l = l.at
