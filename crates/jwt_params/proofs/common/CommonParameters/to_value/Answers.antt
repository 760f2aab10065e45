use Rattle.std.proofs.Common.{◌≡◌, ap, refl, sym, subst, ◌∙◌, rules}
use Rattle.serde_json.proofs.Views.{view-Object}
use Rattle.serde_json.specs.Data.{object, no_members}
use Rattle.serde_json.specs.View.{members_view}
use Rattle.jwt_params.specs.Common.{ReadsCommon, with_common, normal_common}
use Rattle.jwt_params.proofs.CommonLemmas.{reads_with_common}
use Rattle.jwt_params.proofs.common.CommonParameters.to_value.Goals as goal

pub returns-clause-reads_back : goal.returns-clause-reads_back
returns-clause-reads_back c =
    let is : members_view c.in_ok-members.members.entries ≡ with_common c.args.self.now no_members = search rules in
    subst (λ v. ReadsCommon v (normal_common c.args.self.now))
    (sym (view-Object c.in_ok-members.members ∙ ap object is)) (reads_with_common c.args.self.now no_members refl)
