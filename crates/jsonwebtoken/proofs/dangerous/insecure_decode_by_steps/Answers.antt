use Rattle.std.proofs.Common.{[], ◌∷◌, inl}
use Rattle.jsonwebtoken.specs.Calls.{Carries}
use Rattle.jsonwebtoken.specs.private_clauses.Steps.{no_contents, parts_in, whole}
use Rattle.jsonwebtoken.specs.Tests.{HasThreeParts, header_tests, insecure_order, insecure_call}
use Rattle.jsonwebtoken.proofs.Exits.{exit, stop, beside}
use Rattle.jsonwebtoken.proofs.dangerous.insecure_decode_by_steps.Goals as goal

pub returns-in_err-parts : goal.returns-in_err-parts
returns-in_err-parts g c =
    let call = insecure_call c.args.token.now g.T.Claims.reads in
    exit call insecure_order whole (Carries call) _ _ c.from_residual.ensures.1 (λ f. (no_contents, inl f))
    c.in_err-parts.ensures

pub returns-in_err-header : goal.returns-in_err-header
returns-in_err-header g c =
    let call = insecure_call c.args.token.now g.T.Claims.reads in
    exit call insecure_order whole (Carries call) _ _ c.from_residual-in_err-header.ensures.1
    (λ f. stop call insecure_order (HasThreeParts ∷ []) header_tests
    (record f.0 { parts = parts_in c.in_ok-parts.parts }) _ _ (c.in_ok-parts.ensures, tt) f.1) c.in_err-header.ensures

pub returns : goal.returns
returns g c =
    let call = insecure_call c.args.token.now g.T.Claims.reads in
    beside call (parts_in c.in_ok-parts.parts) c.in_ok-header.header c.in_ok-header.ensures c.in_ok-parts.ensures
    insecure_order c.read_payload-claims.result c.token_data.result c.token_data.ensures c.read_payload-claims.ensures
