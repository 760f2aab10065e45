use Rattle.std.proofs.Common.{inl, inr}
use Rattle.serde_json.specs.View.{view}
use Rattle.jsonwebtoken.specs.private_clauses.Steps.{ShowsClaims, no_contents, reading, with_payload_part}
use Rattle.jsonwebtoken.specs.Tests.{payload_tests}
use Rattle.jsonwebtoken.proofs.Exits.{exit, last}
use Rattle.jsonwebtoken.proofs.decoding.steps.read_payload.Goals as goal

pub returns-in_err-bytes : goal.returns-in_err-bytes
returns-in_err-bytes g c =
    exit (reading g.T.Claims.reads) payload_tests (with_payload_part c.args.part.now) (ShowsClaims g.T.Claims.reads) _ _
    c.from_residual.ensures.1
    (λ f. (no_contents, inl f)) c.in_err-bytes.ensures

pub returns-in_err-value : goal.returns-in_err-value
returns-in_err-value g c =
    let no = rw c.as_slice.ensures.value at c.in_err-value.ensures in
    exit (reading g.T.Claims.reads) payload_tests (with_payload_part c.args.part.now) (ShowsClaims g.T.Claims.reads) _ _
    c.from_residual-in_err-value.ensures.1
    (λ f. (record no_contents { payload_bytes = c.in_ok-bytes.bytes.items }, inr (c.in_ok-bytes.ensures, inl f))) no

pub returns : goal.returns
returns g c =
    let json = rw c.as_slice.ensures.value at c.in_ok-value.ensures in
    let t = record no_contents { payload_bytes = c.in_ok-bytes.bytes.items; payload_value = view c.in_ok-value.value } in
    last (reading g.T.Claims.reads) payload_tests (with_payload_part c.args.part.now) (ShowsClaims g.T.Claims.reads)
    c.claims_of_value.result c.claims_of_value.ensures
    (λ y reads. (t, (c.in_ok-bytes.ensures, (json, ((y, reads), tt))), reads))
    (λ f k no. (t, inr (c.in_ok-bytes.ensures, inr (json, inl no))))
