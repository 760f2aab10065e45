use Rattle.std.proofs.Common.{◌≡◌}
use Rattle.serde_json.specs.View.{members_view}
use Rattle.jwt_validation.specs.OptionsFault.{first_other}
use Rattle.jwt_validation.proofs.fault.first_other.Given as goal

-- the names that are left decide
abbrev pub invariant-loop-name : goal.invariant-loop-name
invariant-loop-name l = first_other (members_view l.members.entries) ≡ first_other (members_view l.name-iterator)
