use Rattle.std.proofs.Common.{◌≡◌, Option, Some, None, sym}
use Rattle.std.specs.Prelude.{IfSome, option_map}
use Rattle.json.specs.Find.{get}
use Rattle.json.specs.Tree.{HasNumbers}
use Rattle.json.specs.Value.{value_view}
use Rattle.jwt_c_calls.proofs.Paths.{of_member}
use Rattle.jwt_c_calls.proofs.members.member_of.Goals as goal

pub returns-in-Some-clause-numbers : goal.returns-in-Some-clause-numbers
returns-in-Some-clause-numbers c h =
    let own = rw c.in-Some.is at h in
    elim c.get.result as (λ r. option_map (λ v. value_view v.now) r ≡ get c.args.name.now (value_view c.in-Some.value.now)
    → IfSome r (λ v. HasNumbers (value_view v.now))) [
      | None ↦ λ e. tt
      | Some v ↦ λ e. of_member c.args.name.now (value_view c.in-Some.value.now) (value_view v.now) own (sym e)
    ] c.get.ensures
