use Rattle.std.proofs.Common.{◌≡◌, drop}
use Rattle.serde_json.specs.View.{items_view}
use Rattle.jwt_validation.specs.OptionsRead.{are_claim_names}
use Rattle.jwt_validation.proofs.fault.is_claim_list.Given as goal

-- the items that are left decide
abbrev pub invariant-loop-item : goal.invariant-loop-item
invariant-loop-item l = are_claim_names (items_view l.item-items)
    ≡ are_claim_names (items_view (drop l.item-index l.item-items))
