use Rattle.serde_json.specs.View.{members_view}
use Rattle.jwt_header.specs.Extras.{header_names}
use Rattle.jwt_base.proofs.FreeMembers.{has_named-without}
use Rattle.jwt_header.proofs.extras.Extras.among.Goals as goal

pub invariant_of-result : goal.invariant_of-result
invariant_of-result c = record {
  free = rw (c.in_ok-members.ensures.ok, c.header_names.ensures)
      (has_named-without header_names (members_view c.args.members.now.entries));
  no_float = c.in_ok-members.ensures.no_float;
}

pub returns-clause-extras : goal.returns-clause-extras
returns-clause-extras c = invariant_of-result c
