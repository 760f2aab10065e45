use Rattle.std.proofs.Common.{[], ◌∷◌, inl}
use Rattle.jsonwebtoken.specs.Calls.{HasClaims}
use Rattle.jsonwebtoken.specs.private_clauses.Steps.{no_contents, parts_in, whole}
use Rattle.jsonwebtoken.specs.Tests.{HasThreeParts, payload_tests, insecure_claims_order, insecure_call}
use Rattle.jsonwebtoken.proofs.Exits.{exit, stop}
use Rattle.jsonwebtoken.proofs.dangerous.insecure_decode_claims_by_steps.Goals as goal

pub returns-in_err-parts : goal.returns-in_err-parts
returns-in_err-parts g c =
    let call = insecure_call c.args.token.now g.T.Claims.reads in
    exit call insecure_claims_order whole (HasClaims call) _ _ c.from_residual.ensures.1 (λ f. (no_contents, inl f))
    c.in_err-parts.ensures

pub returns-in_err-claims : goal.returns-in_err-claims
returns-in_err-claims g c =
    let call = insecure_call c.args.token.now g.T.Claims.reads in
    exit call insecure_claims_order whole (HasClaims call) _ _ c.from_residual-in_err-claims.ensures.1
    (λ f. stop call insecure_claims_order (HasThreeParts ∷ []) payload_tests
    (record f.0 { parts = parts_in c.in_ok-parts.parts }) _ _ (c.in_ok-parts.ensures, tt) f.1) c.in_err-claims.ensures

pub returns : goal.returns
returns g c =
    let f = c.in_ok-claims.ensures in
    (record f.0 { parts = parts_in c.in_ok-parts.parts }, (c.in_ok-parts.ensures, f.1), f.2)
