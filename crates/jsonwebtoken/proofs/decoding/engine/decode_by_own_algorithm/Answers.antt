use Rattle.std.proofs.Common.{Err, None, inl, inr, refl, ⊎_elim}
use Rattle.jwt_validation.specs.OptionsOf.{options_of}
use Rattle.jsonwebtoken.specs.Finding.{finding}
use Rattle.jsonwebtoken.specs.Own.{listed, with_algorithms}
use Rattle.jsonwebtoken.specs.private_clauses.Steps.{parts_in}
use Rattle.jsonwebtoken.proofs.FinderLemmas.{decides_by, none_of_cut, none_of_header, own_of_opened}
use Rattle.jsonwebtoken.proofs.FinderLemmas.{says_claims, says_cut, says_header, says_refused}
use Rattle.jsonwebtoken.proofs.OwnLemmas.{listed_is}
use Rattle.jsonwebtoken.proofs.decoding.engine.decode_by_own_algorithm.Goals as goal

pub returns-in-Err-clause-own : goal.returns-in-Err-clause-own
returns-in-Err-clause-own g c =
    ⊎_elim (λ n. inl n) (λ m. inr (refl, m))
    (none_of_cut (g.K.KeyFinder.source c.args.keys.now) c.args.token.now c.in-Err.refusal.error c.in-Err.ensures)

pub returns-in-Err-clause-decided : goal.returns-in-Err-clause-decided
returns-in-Err-clause-decided g c =
    let o = options_of c.args.validation.now in
    let call = finding g.K.KeyFinder g.T.Claims c.args.keys.now c.args.token.now o c.args.time in
    decides_by (record call { options = with_algorithms o (listed None) }) call.keys _
    (says_cut call call.keys o c.args.token.now (listed None) _ c.in-Err.ensures)

pub returns-in-Err-read_header-clause-own : goal.returns-in-Err-read_header-clause-own
returns-in-Err-read_header-clause-own g c =
    ⊎_elim (λ n. inl n) (λ m. inr (refl, m))
    (none_of_header (g.K.KeyFinder.source c.args.keys.now) c.args.token.now (parts_in c.in-Ok.parts) c.in-Ok.ensures
    c.in-Err-read_header.refusal.test c.in-Err-read_header.refusal.error c.in-Err-read_header.ensures)

pub returns-in-Err-read_header-clause-decided : goal.returns-in-Err-read_header-clause-decided
returns-in-Err-read_header-clause-decided g c =
    let o = options_of c.args.validation.now in
    let call = finding g.K.KeyFinder g.T.Claims c.args.keys.now c.args.token.now o c.args.time in
    decides_by (record call { options = with_algorithms o (listed None) }) call.keys _
    (says_header call call.keys o c.args.token.now (parts_in c.in-Ok.parts) c.in-Ok.ensures (listed None)
    c.in-Err-read_header.refusal.test (Err c.in-Err-read_header.refusal.error) _ refl c.in-Err-read_header.ensures)

pub returns-in-Ok-read_claims-clause-own : goal.returns-in-Ok-read_claims-clause-own
returns-in-Ok-read_claims-clause-own g c =
    inl (own_of_opened (g.K.KeyFinder.source c.args.keys.now) c.args.token.now (parts_in c.in-Ok.parts)
    c.in-Ok-read_header.header _ c.in-Ok-read_header.ensures c.in-Ok.ensures c.own_algorithm-own.ensures)

pub returns-in-Ok-read_claims-clause-decided : goal.returns-in-Ok-read_claims-clause-decided
returns-in-Ok-read_claims-clause-decided g c =
    let o = options_of c.args.validation.now in
    let call = finding g.K.KeyFinder g.T.Claims c.args.keys.now c.args.token.now o c.args.time in
    let own = c.own_algorithm-own.result in
    decides_by (record call { options = with_algorithms o (listed own) }) call.keys _
    (says_claims call call.keys o c.args.token.now (parts_in c.in-Ok.parts) c.in-Ok.ensures c.in-Ok-read_header.header _
    (listed own) (listed_is own c.as_slice.result.now c.as_slice.ensures) c.in-Ok-read_header.ensures
    c.in-Ok-read_claims.claims c.in-Ok-read_claims.ensures)

pub returns-in-Err-read_claims-clause-own : goal.returns-in-Err-read_claims-clause-own
returns-in-Err-read_claims-clause-own g c =
    inl (own_of_opened (g.K.KeyFinder.source c.args.keys.now) c.args.token.now (parts_in c.in-Ok.parts)
    c.in-Ok-read_header.header _ c.in-Ok-read_header.ensures c.in-Ok.ensures c.own_algorithm-own.ensures)

pub returns-in-Err-read_claims-clause-decided : goal.returns-in-Err-read_claims-clause-decided
returns-in-Err-read_claims-clause-decided g c =
    let o = options_of c.args.validation.now in
    let call = finding g.K.KeyFinder g.T.Claims c.args.keys.now c.args.token.now o c.args.time in
    let own = c.own_algorithm-own.result in
    decides_by (record call { options = with_algorithms o (listed own) }) call.keys _
    (says_refused call call.keys o c.args.token.now (parts_in c.in-Ok.parts) c.in-Ok.ensures c.in-Ok-read_header.header _
    (listed own) (listed_is own c.as_slice.result.now c.as_slice.ensures) c.in-Ok-read_header.ensures
    c.in-Err-read_claims.refusal c.in-Err-read_claims.ensures)
