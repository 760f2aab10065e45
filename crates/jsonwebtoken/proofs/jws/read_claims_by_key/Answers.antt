use Rattle.std.proofs.Common.{◌∷◌, ◌++◌, inl, inr}
use Rattle.jsonwebtoken.specs.Calls.{decoding_parts}
use Rattle.jsonwebtoken.specs.private_clauses.Steps.{ShowsClaims, no_contents, parts_in, with_opening}
use Rattle.jsonwebtoken.specs.Tests.{CritIsUnderstood, jws_algorithm_tests, verifying_tests}
use Rattle.jsonwebtoken.proofs.EachTest.{join}
use Rattle.jsonwebtoken.proofs.Exits.{exit, early, later, verified_passes, verified_failed}
use Rattle.jsonwebtoken.proofs.jws.read_claims_by_key.Goals as goal

pub returns-in_err-check_crit : goal.returns-in_err-check_crit
returns-in_err-check_crit g c =
    let call = decoding_parts g.P.CryptoProvider g.T.Claims c.args.provider.now (parts_in c.args.opening.now.parts.now)
    c.args.key.now c.args.validation.now c.args.time in
    exit call (CritIsUnderstood ∷ (jws_algorithm_tests ++ verifying_tests))
    (with_opening (parts_in c.args.opening.now.parts.now) c.args.opening.now.header.now) (ShowsClaims g.T.Claims.reads) _ _
    c.from_residual.ensures.1
    (λ f. (no_contents, inl f)) c.in_err-check_crit.ensures

pub returns-in_err-verifier : goal.returns-in_err-verifier
returns-in_err-verifier g c =
    let call = decoding_parts g.P.CryptoProvider g.T.Claims c.args.provider.now (parts_in c.args.opening.now.parts.now)
    c.args.key.now c.args.validation.now c.args.time in
    let at = with_opening (parts_in c.args.opening.now.parts.now) c.args.opening.now.header.now in
    exit call (CritIsUnderstood ∷ (jws_algorithm_tests ++ verifying_tests)) at (ShowsClaims g.T.Claims.reads) _ _
    c.from_residual-in_err-verifier.ensures.1
    (λ f. (
      no_contents,
      inr (
        c.in_ok-check_crit.ensures,
        early call jws_algorithm_tests verifying_tests
            (at no_contents) _ _ f.1,
      ),
    )) c.in_err-verifier.ensures.tests

pub returns-in_err-claims : goal.returns-in_err-claims
returns-in_err-claims g c =
    let call = decoding_parts g.P.CryptoProvider g.T.Claims c.args.provider.now (parts_in c.args.opening.now.parts.now)
    c.args.key.now c.args.validation.now c.args.time in
    let at = with_opening (parts_in c.args.opening.now.parts.now) c.args.opening.now.header.now in
    exit call (CritIsUnderstood ∷ (jws_algorithm_tests ++ verifying_tests)) at (ShowsClaims g.T.Claims.reads) _ _
    c.from_residual-in_err-claims.ensures.1
    (λ f. (
      f.0,
      inr (
        c.in_ok-check_crit.ensures,
        later call jws_algorithm_tests verifying_tests
            (at f.0) _ _ c.in_ok-verifier.ensures.tests.1
            (verified_failed call _ (at f.0) c.in_ok-verifier.ensures.accepts _ _ f.1),
      ),
    ))
    c.in_err-claims.ensures

pub returns : goal.returns
returns g c =
    let call = decoding_parts g.P.CryptoProvider g.T.Claims c.args.provider.now (parts_in c.args.opening.now.parts.now)
    c.args.key.now c.args.validation.now c.args.time in
    let f = c.in_ok-claims.ensures in
    let s = with_opening (parts_in c.args.opening.now.parts.now) c.args.opening.now.header.now f.0 in (
      f.0,
      (
        c.in_ok-check_crit.ensures,
        join call jws_algorithm_tests verifying_tests s c.in_ok-verifier.ensures.tests.1
            (verified_passes call _ s c.in_ok-verifier.ensures.accepts f.1),
      ),
      f.2,
    )
