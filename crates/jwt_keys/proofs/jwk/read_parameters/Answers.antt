use Rattle.std.proofs.Common.{◌≡◌, Some, None, sym, ◌∙◌, rules}
use Rattle.std.proofs.lemmas.Result.{err_from_is_err_and}
use Rattle.serde_json.specs.Find.{as_object}
use Rattle.serde_json.specs.View.{view, members_view}
use Rattle.jwt_params.specs.Parameters.{named_from}
use Rattle.jwt_keys.proofs.JwkLemmas.{own_parameters_from-named, own_parameters_from-other, own_parameters_from-float}
use Rattle.jwt_keys.proofs.jwk.read_parameters.Goals as goal

pub returns-in-Some-2-clause-ok : goal.returns-in-Some-2-clause-ok
returns-in-Some-2-clause-ok c =
    let is : as_object (view c.args.value.now) ≡ Some (members_view c.in-Some.members.now.entries) = search rules in
    own_parameters_from-named _ _ _ is (sym c.in_ok-named.ensures.ok ∙ c.in-Some-2.is)

pub returns-in_err-fields-clause-err : goal.returns-in_err-fields-clause-err
returns-in_err-fields-clause-err c =
    let is : as_object (view c.args.value.now) ≡ Some (members_view c.in-Some.members.now.entries) = search rules in
    let none : named_from (view c.args.value.now) ≡ None = search rules in
    let p = err_from_is_err_and c.from_residual-in_err-fields.result c.from_residual-in_err-fields.ensures.1 in
    rw (p.1, p.2) (own_parameters_from-float (view c.args.value.now) _ _ is none c.in_err-fields.ensures.err)

pub returns-clause-ok : goal.returns-clause-ok
returns-clause-ok c =
    let is : as_object (view c.args.value.now) ≡ Some (members_view c.in-Some.members.now.entries) = search rules in
    let none : named_from (view c.args.value.now) ≡ None = search rules in
    rw c.in_ok-fields.ensures.ok (own_parameters_from-other _ _ is none
    (rw c.in_ok-fields.ensures.ok at c.in_ok-fields.ensures.no_float))
