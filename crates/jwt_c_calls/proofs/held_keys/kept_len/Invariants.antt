use Rattle.std.proofs.Common.{◌≡◌, ◌≤◌, take}
use Rattle.jwt_c_calls.specs.KeyLists.{kept_len}
use Rattle.jwt_c_calls.proofs.held_keys.kept_len.Given as goal

abbrev pub invariant-loop-item : goal.invariant-loop-item
invariant-loop-item l = (l.kept ≡ kept_len (take l.item-index l.items)) × (l.kept ≤ l.item-index)
