use Rattle.std.proofs.Common.{◌≡◌, drop}
use Rattle.serde_json.specs.View.{items_view, members_view}
use Rattle.serde_json.specs.Written.{items_have_float, members_have_float}
use Rattle.jwt_base.proofs.json.equality.+floats.Given as goal

abbrev pub invariant-any_item_has_float-loop-item : goal.invariant-any_item_has_float-loop-item
invariant-any_item_has_float-loop-item l = items_have_float (items_view l.items)
    ≡ items_have_float (items_view (drop l.item-index l.items))

abbrev pub invariant-any_member_has_float-loop-member : goal.invariant-any_member_has_float-loop-member
invariant-any_member_has_float-loop-member l = members_have_float (members_view l.members.entries)
    ≡ members_have_float (members_view l.member-iterator)
