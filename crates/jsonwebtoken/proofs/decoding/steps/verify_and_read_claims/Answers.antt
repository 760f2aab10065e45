use Rattle.jwt_validation.specs.OptionsOf.{options_of}
use Rattle.jsonwebtoken.specs.Steps.{Failed}
use Rattle.jsonwebtoken.specs.private_clauses.Steps.{ShowsClaims, claiming, with_payload_part, verifying_by}
use Rattle.jsonwebtoken.specs.private_clauses.Steps.{with_parts, parts_in}
use Rattle.jsonwebtoken.specs.Tests.{Contents, signature_tests, claim_tests, verifying_tests}
use Rattle.jsonwebtoken.proofs.EachTest.{join}
use Rattle.jsonwebtoken.proofs.Exits.{exit, last, early, later}
use Rattle.jsonwebtoken.proofs.decoding.steps.verify_and_read_claims.Goals as goal

pub returns-in_err-check_signature : goal.returns-in_err-check_signature
returns-in_err-check_signature g c =
    let call = verifying_by g.T.Claims.reads (options_of c.args.validation.now) c.args.time
    (g.V.JwtVerifier.accepts c.args.verifier.now) in
    let at = with_parts (parts_in c.args.parts.now) in
    exit call verifying_tests at (ShowsClaims g.T.Claims.reads) _ _ c.from_residual.ensures.1
    (λ f. (f.0, early call signature_tests claim_tests (at f.0) _ _ f.1)) c.in_err-check_signature.ensures

pub returns : goal.returns
returns g c =
    let call = verifying_by g.T.Claims.reads (options_of c.args.validation.now) c.args.time
    (g.V.JwtVerifier.accepts c.args.verifier.now) in
    let at = with_parts (parts_in c.args.parts.now) in
    let s = c.in_ok-check_signature.ensures in
    last call verifying_tests at (ShowsClaims g.T.Claims.reads) c.read_claims.result c.read_claims.ensures
    (λ y f. let x = record f.0 { signature_bytes = s.0.signature_bytes } in
    (x, join call signature_tests claim_tests (at x) s.1 f.1, f.2))
    (λ d k (f : (x : Contents) × Failed (claiming g.T.Claims.reads (options_of c.args.validation.now) c.args.time)
    claim_tests (with_payload_part c.args.parts.now.payload.now x) d k). let x =
    record f.0 { signature_bytes = s.0.signature_bytes } in (x, later call signature_tests claim_tests (at x) d k s.1 f.1))
