use Rattle.serde_json.proofs.Views.{view-Object}
use Rattle.jwt_header.proofs.HeaderLemmas.{has_normal_form, written_no_float}
use Rattle.jwt_header.proofs.header.Header.to_value.Goals as goal

pub returns-in_err-members-clause-normal_form : goal.returns-in_err-members-clause-normal_form
returns-in_err-members-clause-normal_form c = has_normal_form c.args.self.now c.members.ensures.extras

pub returns-clause-normal_form : goal.returns-clause-normal_form
returns-clause-normal_form c = has_normal_form c.args.self.now c.members.ensures.extras

pub returns-clause-no_float : goal.returns-clause-no_float
returns-clause-no_float c = rw (view-Object c.in_ok-members.members)
    (written_no_float c.args.self.now _ c.members.ensures.extras c.in_ok-members.ensures.ok)
