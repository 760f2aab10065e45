use Rattle.std.proofs.Common.{take}
use Rattle.serde_json.specs.View.{items_view}
use Rattle.jwt_key_items.specs.KeyItems.{AreItems}
use Rattle.jwt_key_items.proofs.read_items.Given as goal

abbrev pub invariant-loop-value : goal.invariant-loop-value
invariant-loop-value l = AreItems (items_view (take l.value-index l.values)) l.items.items
