use Rattle.std.proofs.Common.{◌≡◌, take}
use Rattle.jwt_key_items.specs.KeyItems.{kept_of}
use Rattle.jwt_c_calls.proofs.held_keys.kept_keys.Given as goal

abbrev pub invariant-loop-item : goal.invariant-loop-item
invariant-loop-item l = l.keys.items ≡ kept_of (take l.item-index l.items)
