use Rattle.std.proofs.Common.{◌≡◌, ◌++◌, drop, map, option_map}
use Rattle.serde_json.specs.View.{items_view}
use Rattle.jwt_base.specs.Members.{item_texts}
use Rattle.jwt_params.specs.Operation.{operation_named}
use Rattle.jwt_params.proofs.operations.KeyOperationList.from_value.Given as goal

-- the items that are left to read follow those that were read
abbrev pub invariant-loop-item : goal.invariant-loop-item
invariant-loop-item l = option_map (map operation_named) (item_texts (items_view l.item-items))
    ≡ option_map (λ left. l.operations.items ++ map operation_named left)
    (item_texts (items_view (drop l.item-index l.item-items)))
