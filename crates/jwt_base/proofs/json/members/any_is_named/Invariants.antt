use Rattle.std.proofs.Common.{◌≡◌, map}
use Rattle.serde_json.specs.View.{members_view}
use Rattle.jwt_base.specs.Members.{has_named}
use Rattle.jwt_base.proofs.json.members.any_is_named.Given as goal

abbrev pub invariant-loop-name : goal.invariant-loop-name
invariant-loop-name l = has_named (map (λ s. s.now) l.names) (members_view l.members.entries)
    ≡ has_named (map (λ s. s.now) l.names) (members_view l.name-iterator)
