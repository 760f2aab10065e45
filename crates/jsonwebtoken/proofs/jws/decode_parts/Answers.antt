use Rattle.std.proofs.Common.{[], ◌∷◌, refl}
use Rattle.jsonwebtoken.specs.Calls.{decoding_parts, Carries}
use Rattle.jsonwebtoken.specs.private_clauses.Steps.{parts_in, whole}
use Rattle.jsonwebtoken.specs.Tests.{HasThreeParts, header_tests, jws_order}
use Rattle.jsonwebtoken.proofs.Exits.{exit, stop, beside}
use Rattle.jsonwebtoken.proofs.jws.decode_parts.Goals as goal

pub returns-in_err-header : goal.returns-in_err-header
returns-in_err-header g c =
    let call = decoding_parts g.P.CryptoProvider g.T.Claims c.args.provider.now (parts_in c.args.parts.now)
    c.args.key.now c.args.validation.now c.args.time in
    exit call jws_order whole (Carries call) _ _ c.from_residual.ensures.1
    (λ f. stop call jws_order (HasThreeParts ∷ []) header_tests (record f.0 { parts = parts_in c.args.parts.now }) _ _
    (refl, tt) f.1) c.in_err-header.ensures

pub returns : goal.returns
returns g c =
    let call = decoding_parts g.P.CryptoProvider g.T.Claims c.args.provider.now (parts_in c.args.parts.now)
    c.args.key.now c.args.validation.now c.args.time in
    beside call (parts_in c.args.parts.now) c.in_ok-header.header c.in_ok-header.ensures refl jws_order
    c.read_claims_by_key-claims.result c.token_data.result c.token_data.ensures c.read_claims_by_key-claims.ensures
