use Rattle.std.proofs.Common.{◌≡◌, drop, is_some}
use Rattle.serde_json.specs.View.{items_view}
use Rattle.jwt_base.specs.Members.{item_texts}
use Rattle.jwt_further.proofs.is_text_list.Given as goal

-- the items that are left decide
abbrev pub invariant-loop-item : goal.invariant-loop-item
invariant-loop-item l = is_some (item_texts (items_view l.item-items))
    ≡ is_some (item_texts (items_view (drop l.item-index l.item-items)))
