use Rattle.std.proofs.Common.{◌≡◌, ◌++◌, drop, option_map}
use Rattle.serde_json.specs.View.{items_view}
use Rattle.jwt_base.specs.Members.{item_texts}
use Rattle.jwt_base.proofs.json.members.read_texts.Given as goal

-- the items that are left to read follow those that were read
abbrev pub invariant-loop-item : goal.invariant-loop-item
invariant-loop-item l = item_texts (items_view l.item-items) ≡ option_map (λ left. l.texts.items ++ left)
    (item_texts (items_view (drop l.item-index l.item-items)))
