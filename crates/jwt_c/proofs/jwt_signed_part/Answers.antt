use Rattle.std.proofs.Common.{refl, inl, inr}
use Rattle.jwt_base.specs.KindOf.{kind_of}
use Rattle.jwt_c.proofs.jwt_signed_part.Goals as goal

pub returns-in-Ok : goal.returns-in-Ok
returns-in-Ok c =
    let a = c.in-Ok.ensures.accepted in
    inl (
      a.0,
      a.1,
      rw a.2.0 c.algorithm_number.ensures,
      rw a.2.1 refl,
      rw a.2.2 (rw c.as_slice.ensures.value at c.put_bytes.ensures),
    )

pub returns-in-Err : goal.returns-in-Err
returns-in-Err c =
    inr (
      kind_of c.in-Err.refused,
      c.in-Err.ensures.refused,
      cc,
      cc,
      record { number = rw c.kind.ensures.kind at c.number_of.ensures; none = refl; room = refl },
    )
