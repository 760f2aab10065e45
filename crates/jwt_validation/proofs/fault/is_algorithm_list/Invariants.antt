use Rattle.std.proofs.Common.{◌≡◌, drop, is_some}
use Rattle.serde_json.specs.View.{items_view}
use Rattle.jwt_validation.specs.OptionsRead.{item_algorithms}
use Rattle.jwt_validation.proofs.fault.is_algorithm_list.Given as goal

-- the items that are left decide
abbrev pub invariant-loop-item : goal.invariant-loop-item
invariant-loop-item l = is_some (item_algorithms (items_view l.item-items))
    ≡ is_some (item_algorithms (items_view (drop l.item-index l.item-items)))
