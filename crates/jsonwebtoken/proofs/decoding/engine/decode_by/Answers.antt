use Rattle.std.proofs.Common.{Err, refl}
use Rattle.jwt_validation.specs.OptionsOf.{options_of}
use Rattle.jsonwebtoken.specs.Calls.{Carries}
use Rattle.jsonwebtoken.specs.Finder.{order_by}
use Rattle.jsonwebtoken.specs.Finding.{finding}
use Rattle.jsonwebtoken.specs.Tests.{HasThreeParts, token_tests}
use Rattle.jsonwebtoken.specs.private_clauses.Steps.{parts_in}
use Rattle.jsonwebtoken.proofs.Exits.{unnoted}
use Rattle.jsonwebtoken.proofs.FinderLemmas.{decides_by, laws_by, says_claims, says_cut, says_header, says_refused}
use Rattle.jsonwebtoken.proofs.decoding.engine.decode_by.Goals as goal

pub returns-in-Err-clause-decided : goal.returns-in-Err-clause-decided
returns-in-Err-clause-decided g c =
    let o = options_of c.args.validation.now in
    let call = finding g.K.KeyFinder g.T.Claims c.args.keys.now c.args.token.now o c.args.time in
    unnoted (token_tests call) (order_by call.keys) (Carries call) c.in-Err.refusal.test _ (decides_by call call.keys _
    (says_cut call call.keys o c.args.token.now o.algorithms c.in-Err.refusal c.in-Err.ensures))

pub returns-in-Err-clause-laws : goal.returns-in-Err-clause-laws
returns-in-Err-clause-laws g c =
    let call = finding g.K.KeyFinder g.T.Claims c.args.keys.now c.args.token.now (options_of c.args.validation.now)
    c.args.time in
    laws_by call call.keys c.args.token.now (g.met.K.KeyFinder.same_family c.args.keys.now)

pub returns-in-Err-read_header_noting-clause-decided : goal.returns-in-Err-read_header_noting-clause-decided
returns-in-Err-read_header_noting-clause-decided g c =
    let o = options_of c.args.validation.now in
    let call = finding g.K.KeyFinder g.T.Claims c.args.keys.now c.args.token.now o c.args.time in
    unnoted (token_tests call) (order_by call.keys) (Carries call) c.read_header_noting.new.failed _
    (decides_by call call.keys _ (says_header call call.keys o c.args.token.now (parts_in c.in-Ok.parts) c.in-Ok.ensures
    o.algorithms c.read_header_noting.new.failed (Err c.in-Err-read_header_noting.error) _ refl
    c.in-Err-read_header_noting.ensures))

pub returns-in-Err-read_header_noting-clause-laws : goal.returns-in-Err-read_header_noting-clause-laws
returns-in-Err-read_header_noting-clause-laws g c =
    let call = finding g.K.KeyFinder g.T.Claims c.args.keys.now c.args.token.now (options_of c.args.validation.now)
    c.args.time in
    laws_by call call.keys c.args.token.now (g.met.K.KeyFinder.same_family c.args.keys.now)

pub returns-in-Ok-read_claims-clause-decided : goal.returns-in-Ok-read_claims-clause-decided
returns-in-Ok-read_claims-clause-decided g c =
    let o = options_of c.args.validation.now in
    let call = finding g.K.KeyFinder g.T.Claims c.args.keys.now c.args.token.now o c.args.time in
    unnoted (token_tests call) (order_by call.keys) (Carries call) HasThreeParts _ (decides_by call call.keys _
    (says_claims call call.keys o c.args.token.now (parts_in c.in-Ok.parts) c.in-Ok.ensures c.in-Ok-read_header_noting.header _ o.algorithms
    c.as_slice.ensures.value c.in-Ok-read_header_noting.ensures c.in-Ok-read_claims.claims c.in-Ok-read_claims.ensures))

pub returns-in-Ok-read_claims-clause-laws : goal.returns-in-Ok-read_claims-clause-laws
returns-in-Ok-read_claims-clause-laws g c =
    let call = finding g.K.KeyFinder g.T.Claims c.args.keys.now c.args.token.now (options_of c.args.validation.now)
    c.args.time in
    laws_by call call.keys c.args.token.now (g.met.K.KeyFinder.same_family c.args.keys.now)

pub returns-in-Err-read_claims-clause-decided : goal.returns-in-Err-read_claims-clause-decided
returns-in-Err-read_claims-clause-decided g c =
    let o = options_of c.args.validation.now in
    let call = finding g.K.KeyFinder g.T.Claims c.args.keys.now c.args.token.now o c.args.time in
    unnoted (token_tests call) (order_by call.keys) (Carries call) c.in-Err-read_claims.refusal.test _ (decides_by call call.keys _
    (says_refused call call.keys o c.args.token.now (parts_in c.in-Ok.parts) c.in-Ok.ensures c.in-Ok-read_header_noting.header _ o.algorithms
    c.as_slice.ensures.value c.in-Ok-read_header_noting.ensures c.in-Err-read_claims.refusal c.in-Err-read_claims.ensures))

pub returns-in-Err-read_claims-clause-laws : goal.returns-in-Err-read_claims-clause-laws
returns-in-Err-read_claims-clause-laws g c =
    let call = finding g.K.KeyFinder g.T.Claims c.args.keys.now c.args.token.now (options_of c.args.validation.now)
    c.args.time in
    laws_by call call.keys c.args.token.now (g.met.K.KeyFinder.same_family c.args.keys.now)
