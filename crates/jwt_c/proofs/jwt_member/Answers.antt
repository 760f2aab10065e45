use Rattle.std.proofs.Common.{refl, inl}
use Rattle.jwt_c_calls.specs.Members.{IsFound}
use Rattle.jwt_c.proofs.jwt_member.Goals as goal

pub returns-in-Ok-Some : goal.returns-in-Ok-Some
returns-in-Ok-Some c =
    let found : IsFound c.args.path.now c.args.json.now c.in-Ok-Some.found =
    rw c.in-Ok-Some.field-0-is at c.in-Ok-Some.ensures.ok in
    inl (c.in-Ok-Some.found, found, refl, rw c.as_slice.ensures.value at c.put_bytes.ensures)
