use Rattle.std.proofs.Common.{inl, inr}
use Rattle.serde_json.specs.View.{view}
use Rattle.jwt_validation.specs.OptionsOf.{options_of}
use Rattle.jsonwebtoken.specs.private_clauses.Steps.{ShowsClaims, no_contents, claiming, with_payload_part}
use Rattle.jsonwebtoken.specs.Tests.{claim_tests}
use Rattle.jsonwebtoken.proofs.Exits.{exit}
use Rattle.jsonwebtoken.proofs.decoding.steps.read_claims.Goals as goal

pub returns-in_err-bytes : goal.returns-in_err-bytes
returns-in_err-bytes g c =
    exit (claiming g.T.Claims.reads (options_of c.args.validation.now) c.args.time) claim_tests
    (with_payload_part c.args.part.now) (ShowsClaims g.T.Claims.reads) _ _ c.from_residual.ensures.1
    (λ f. (no_contents, inl f)) c.in_err-bytes.ensures

pub returns-in_err-value : goal.returns-in_err-value
returns-in_err-value g c =
    let no = rw c.as_slice.ensures.value at c.in_err-value.ensures in
    exit (claiming g.T.Claims.reads (options_of c.args.validation.now) c.args.time) claim_tests
    (with_payload_part c.args.part.now) (ShowsClaims g.T.Claims.reads) _ _ c.from_residual-in_err-value.ensures.1
    (λ f. (record no_contents { payload_bytes = c.in_ok-bytes.bytes.items }, inr (c.in_ok-bytes.ensures, inl f))) no

pub returns-in_err-claims : goal.returns-in_err-claims
returns-in_err-claims g c =
    let json = rw c.as_slice.ensures.value at c.in_ok-value.ensures in
    let t = record no_contents { payload_bytes = c.in_ok-bytes.bytes.items; payload_value = view c.in_ok-value.value } in
    exit (claiming g.T.Claims.reads (options_of c.args.validation.now) c.args.time) claim_tests
    (with_payload_part c.args.part.now) (ShowsClaims g.T.Claims.reads) _ _ c.from_residual-in_err-claims.ensures.1
    (λ f. (t, inr (c.in_ok-bytes.ensures, inr (json, inl f)))) c.in_err-claims.ensures

pub returns-in_err-held : goal.returns-in_err-held
returns-in_err-held g c =
    let json = rw c.as_slice.ensures.value at c.in_ok-value.ensures in
    let t = record no_contents { payload_bytes = c.in_ok-bytes.bytes.items; payload_value = view c.in_ok-value.value } in
    exit (claiming g.T.Claims.reads (options_of c.args.validation.now) c.args.time) claim_tests
    (with_payload_part c.args.part.now) (ShowsClaims g.T.Claims.reads) _ _ c.from_residual-in_err-held.ensures.1
    (λ f. (t, inr (c.in_ok-bytes.ensures, inr (json, inr ((_, c.in_ok-claims.ensures), f.1))))) c.in_err-held.ensures

pub returns : goal.returns
returns g c =
    let json = rw c.as_slice.ensures.value at c.in_ok-value.ensures in
    let held = c.in_ok-held.ensures in (
      record no_contents { payload_bytes = c.in_ok-bytes.bytes.items; payload_value = view c.in_ok-value.value },
      (c.in_ok-bytes.ensures, (json, ((_, c.in_ok-claims.ensures), held.1))),
      c.in_ok-claims.ensures,
    )
