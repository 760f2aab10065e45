use Rattle.std.proofs.Common.{◌≡◌, ◌++◌, drop, option_map}
use Rattle.serde_json.specs.View.{items_view}
use Rattle.jwt_validation.specs.OptionsRead.{item_algorithms}
use Rattle.jwt_validation.proofs.from_json.read_algorithms.Given as goal

-- the items that are left to read follow those that were read
abbrev pub invariant-loop-item : goal.invariant-loop-item
invariant-loop-item l = item_algorithms (items_view l.item-items) ≡ option_map (λ left. l.algorithms.items ++ left)
    (item_algorithms (items_view (drop l.item-index l.item-items)))
