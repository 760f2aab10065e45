use Rattle.std.proofs.Common.{Err, refl}
use Rattle.std.proofs.lemmas.Result.{err_from_is_err_and}
use Rattle.jwt_validation.specs.OptionsOf.{options_of}
use Rattle.jsonwebtoken.specs.Finding.{finding}
use Rattle.jsonwebtoken.specs.private_clauses.Steps.{parts_in}
use Rattle.jsonwebtoken.proofs.FinderLemmas.{decides_by, says_claims, says_cut, says_header, says_refused}
use Rattle.jsonwebtoken.proofs.decoding.engine.decode_by_or_refusal.Goals as goal

pub returns-in_err-parts : goal.returns-in_err-parts
returns-in_err-parts g c =
    let o = options_of c.args.validation.now in
    let call = finding g.K.KeyFinder g.T.Claims c.args.keys.now c.args.token.now o c.args.time in
    let p = err_from_is_err_and c.from_residual.result c.from_residual.ensures.1 in
    rw (p.1, p.2) (decides_by call call.keys _ (says_cut call call.keys o c.args.token.now o.algorithms _ c.in_err-parts.ensures))

pub returns-in-Err : goal.returns-in-Err
returns-in-Err g c =
    let o = options_of c.args.validation.now in
    let call = finding g.K.KeyFinder g.T.Claims c.args.keys.now c.args.token.now o c.args.time in
    decides_by call call.keys _ (says_header call call.keys o c.args.token.now (parts_in c.in_ok-parts.parts)
    c.in_ok-parts.ensures o.algorithms c.read_header_noting.new.failed (Err c.in-Err.error) _ refl c.in-Err.ensures)

pub returns-in-Ok-read_claims : goal.returns-in-Ok-read_claims
returns-in-Ok-read_claims g c =
    let o = options_of c.args.validation.now in
    let call = finding g.K.KeyFinder g.T.Claims c.args.keys.now c.args.token.now o c.args.time in
    decides_by call call.keys _ (says_claims call call.keys o c.args.token.now (parts_in c.in_ok-parts.parts)
    c.in_ok-parts.ensures c.in-Ok.header _ o.algorithms c.as_slice.ensures.value c.in-Ok.ensures c.in-Ok-read_claims.claims
    c.in-Ok-read_claims.ensures)

pub returns-in-Err-read_claims : goal.returns-in-Err-read_claims
returns-in-Err-read_claims g c =
    let o = options_of c.args.validation.now in
    let call = finding g.K.KeyFinder g.T.Claims c.args.keys.now c.args.token.now o c.args.time in
    decides_by call call.keys _ (says_refused call call.keys o c.args.token.now (parts_in c.in_ok-parts.parts)
    c.in_ok-parts.ensures c.in-Ok.header _ o.algorithms c.as_slice.ensures.value c.in-Ok.ensures c.in-Err-read_claims.refusal
    c.in-Err-read_claims.ensures)
