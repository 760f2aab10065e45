use Rattle.std.proofs.Common.{◌≡◌, take}
use Rattle.jwt_c_calls.proofs.held_keys.clone_items.Given as goal

abbrev pub invariant-loop-item : goal.invariant-loop-item
invariant-loop-item l = l.copy.items ≡ take l.item-index l.items
