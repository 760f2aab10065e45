use Rattle.std.proofs.Common.{◌≡◌, drop}
use Rattle.json.specs.Value.{items_view}
use Rattle.jwt_c_calls.specs.Membership.{some_is_text}
use Rattle.jwt_c_calls.proofs.membership.some_is_text.Given as goal

-- the items that are left decide
abbrev pub invariant-loop-item : goal.invariant-loop-item
invariant-loop-item l = some_is_text l.text (items_view l.items)
    ≡ some_is_text l.text (items_view (drop l.item-index l.items))
