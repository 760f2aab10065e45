use Rattle.serde_json.proofs.Views.{view-Object}
use Rattle.jwt_keys.proofs.SetLemmas.{has_normal_set, set_no_float}
use Rattle.jwt_keys.proofs.jwk_set.JwkSet.to_value.Goals as goal

pub returns-in_err-members-clause-normal_form : goal.returns-in_err-members-clause-normal_form
returns-in_err-members-clause-normal_form c = has_normal_set c.args.self.now.keys.items

pub returns-clause-normal_form : goal.returns-clause-normal_form
returns-clause-normal_form c = has_normal_set c.args.self.now.keys.items

pub returns-clause-no_float : goal.returns-clause-no_float
returns-clause-no_float c = rw (view-Object c.in_ok-members.members)
    (set_no_float c.args.self.now.keys.items _ c.in_ok-members.ensures.ok)
