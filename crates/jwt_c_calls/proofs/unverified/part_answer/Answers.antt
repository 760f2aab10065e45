use Rattle.serde_json.specs.View.{view}
use Rattle.jwt_c_calls.proofs.unverified.part_answer.Goals as goal

pub returns-clause-ok : goal.returns-clause-ok
returns-clause-ok c =
    let reads = rw c.as_slice.ensures.value at c.in_ok-value.ensures.ok in (
      c.in_ok-bytes.bytes.items,
      c.in_ok-bytes.ensures.ok,
      (view c.in_ok-value.value, reads, (c.in_ok-shown.shown.as_signed, c.in_ok-shown.ensures reads.0)),
    )
