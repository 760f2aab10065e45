use Rattle.json.specs.Value.{value_view}
use Rattle.jwt_c_calls.specs.Members.{ReadsObject, ReadsPath}
use Rattle.jwt_c_calls.specs.declared.inputs.Input.TheVariants as input
use Rattle.jwt_c_calls.proofs.Answered.{read_ok}
use Rattle.jwt_c_calls.proofs.membership.status_at.Goals as goal

pub returns-clause-ok : goal.returns-clause-ok
returns-clause-ok c =
    let path = read_ok (ReadsPath c.args.path.now) input.Path c.read_path.result _ c.in_ok-names.ensures c.read_path.ensures.ok in
    let object = read_ok (λ v. ReadsObject c.args.json.now (value_view v)) input.Claims c.read_object.result _
    c.in_ok-object.ensures c.read_object.ensures.ok in
    let says = rw c.as_slice.ensures at c.object_status.ensures in
    ((c.in_ok-names.names, value_view c.in_ok-object.object), (path, object), says)
