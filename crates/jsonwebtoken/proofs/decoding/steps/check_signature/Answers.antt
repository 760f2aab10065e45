use Rattle.std.proofs.Common.{inl, inr}
use Rattle.jsonwebtoken.specs.private_clauses.Steps.{ShowsNothing, no_contents, accepting, with_parts, parts_in}
use Rattle.jsonwebtoken.specs.Tests.{signature_tests}
use Rattle.jsonwebtoken.proofs.Exits.{exit, last}
use Rattle.jsonwebtoken.proofs.decoding.steps.check_signature.Goals as goal

pub returns-in_err-bytes : goal.returns-in_err-bytes
returns-in_err-bytes g c =
    exit (accepting (g.V.JwtVerifier.accepts c.args.verifier.now)) signature_tests
    (with_parts (parts_in c.args.parts.now)) ShowsNothing _ _ c.from_residual.ensures.1
    (λ f. (no_contents, inl f)) c.in_err-bytes.ensures

pub returns : goal.returns
returns g c =
    let t = record no_contents { signature_bytes = c.in_ok-bytes.bytes.items } in
    let m = rw (c.args.parts.now.joined, c.as_slice.ensures.value) at c.check_verdict.ensures in
    last (accepting (g.V.JwtVerifier.accepts c.args.verifier.now)) signature_tests
    (with_parts (parts_in c.args.parts.now)) ShowsNothing c.check_verdict.result m
    (λ _ good. (t, (c.in_ok-bytes.ensures, (good, tt)), tt)) (λ f k no. (t, inr (c.in_ok-bytes.ensures, inl no)))
