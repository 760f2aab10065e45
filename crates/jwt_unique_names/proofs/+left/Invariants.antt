use Rattle.std.proofs.Common.{◌≡◌, ◌+◌, drop}
use Rattle.serde_json.specs.View.{items_view, members_view}
use Rattle.jwt_unique_names.specs.private_clauses.Counts.{items_count, members_count}
use Rattle.jwt_unique_names.proofs.+left.Given as goal

-- what is left, and the members that the loop has passed
abbrev pub invariant-left_after_items-loop-item : goal.invariant-left_after_items-loop-item
invariant-left_after_items-loop-item l = l.rest + items_count (items_view l.items)
    ≡ l.fn.left + items_count (items_view (drop l.item-index l.items))

abbrev pub invariant-left_after_members-loop-member : goal.invariant-left_after_members-loop-member
invariant-left_after_members-loop-member l = l.rest + members_count (members_view l.members.entries)
    ≡ l.fn.left + members_count (members_view l.member-iterator)
