use Rattle.std.proofs.Common.{◌≡◌, drop}
use Rattle.serde_json.specs.View.{items_view, members_view}
use Rattle.jwt_base.specs.DataEq.{items_eq, members_eq}
use Rattle.jwt_base.proofs.json.equality.+same.Given as goal

abbrev pub invariant-same_members-loop-name : goal.invariant-same_members-loop-name
invariant-same_members-loop-name l = members_eq (members_view l.xs.entries) (members_view l.ys.entries)
    ≡ members_eq (members_view l.name-iterator) (members_view l.others)

abbrev pub invariant-same_items-loop-x : goal.invariant-same_items-loop-x
invariant-same_items-loop-x l = items_eq (items_view l.xs) (items_view l.ys)
    ≡ items_eq (items_view (drop l.x-index l.xs)) (items_view l.others.rest.now)
