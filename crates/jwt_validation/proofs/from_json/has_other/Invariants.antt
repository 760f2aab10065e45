use Rattle.std.proofs.Common.{◌≡◌}
use Rattle.serde_json.specs.View.{members_view}
use Rattle.jwt_validation.specs.OptionsRead.{has_other, option_names}
use Rattle.jwt_validation.proofs.from_json.has_other.Given as goal

-- the names that are left decide
abbrev pub invariant-loop-name : goal.invariant-loop-name
invariant-loop-name l = has_other option_names (members_view l.members.entries) ≡ has_other option_names
    (members_view l.name-iterator)
