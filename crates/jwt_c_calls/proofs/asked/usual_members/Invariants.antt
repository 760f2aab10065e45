use Rattle.std.proofs.Common.{◌≡◌, List, ◌++◌}
use Rattle.serde_json.proofs.Views.{Entry}
use Rattle.serde_json.specs.View.{members_view}
use Rattle.jwt_base.specs.Members.{without}
use Rattle.jwt_further.specs.Further.{further_names}
use Rattle.jwt_c_calls.proofs.asked.usual_members.Given as goal

abbrev pub invariant-loop-name : goal.invariant-loop-name
invariant-loop-name l = record {
  done : List Entry;
  entries : l.members.entries ≡ done ++ l.name-iterator;
  kept : members_view l.kept.entries ≡ without further_names (members_view done);
}
