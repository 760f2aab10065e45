use Rattle.std.proofs.Common.{◌≡◌, List, map, ◌++◌, false}
use Rattle.serde_json.proofs.Views.{Entry}
use Rattle.serde_json.specs.View.{members_view}
use Rattle.serde_json.specs.Written.{members_have_float}
use Rattle.jwt_base.specs.Members.{without}
use Rattle.jwt_base.proofs.json.members.members_without.Given as goal

abbrev pub invariant-loop-name : goal.invariant-loop-name
invariant-loop-name l = record {
  done : List Entry;
  entries : l.members.entries ≡ done ++ l.name-iterator;
  kept : members_view l.kept.entries ≡ without (map (λ s. s.now) l.names) (members_view done);
  no_float : members_have_float (without (map (λ s. s.now) l.names) (members_view done)) ≡ false;
}
