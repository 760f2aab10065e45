use Rattle.std.proofs.Common.{◌≤◌, arith, refl}
use Rattle.jwt_validation.specs.Moments.{end_of_time}
use Rattle.jwt_validation.specs.OptionsOf.{options_of}
use Rattle.jsonwebtoken.specs.Finder.{order_by}
use Rattle.jsonwebtoken.specs.Finding.{finding}
use Rattle.jsonwebtoken.specs.Laws.{HasMoments}
use Rattle.jsonwebtoken.specs.Tests.{header_call}
use Rattle.jsonwebtoken.specs.private_clauses.Claimed.{value_tests}
use Rattle.jsonwebtoken.proofs.AcceptedMoments.{none_read, all_claimed, none_claimed, reads_value_by}
use Rattle.jsonwebtoken.proofs.EachTest.{failed_by}
use Rattle.jsonwebtoken.proofs.Exits.{not_memory}
use Rattle.jsonwebtoken.proofs.FinderLemmas.{laws_by}
use Rattle.jsonwebtoken.proofs.accepted_moments.first_and_last_moment.Goals as goal

pub returns-in-Err : goal.returns-in-Err
returns-in-Err g c =
    let keys = g.K.KeyFinder.source c.args.keys.now in
    let f = not_memory c.in-Err.refusal _ c.in_ok-test_of-in-Err.ensures c.in-Err.ensures in
    none_read c.args.token.now keys (options_of c.args.validation.now) (g.K.KeyFinder.refusal c.args.keys.now)
    (g.K.KeyFinder.accepts c.args.keys.now) g.T.Claims.reads (order_by keys) (reads_value_by keys) _
    (failed_by (header_call c.args.token.now) value_tests refl f.0 _ _ f.1).0

pub returns-in-None : goal.returns-in-None
returns-in-None g c =
    let keys = g.K.KeyFinder.source c.args.keys.now in
    let call = finding g.K.KeyFinder g.T.Claims c.args.keys.now c.args.token.now (options_of c.args.validation.now) 0 in
    let has : HasMoments call (order_by keys) =
    (laws_by call keys c.args.token.now (g.met.K.KeyFinder.same_family c.args.keys.now)).moments in
    let x = c.in-Ok.ensures in
    let whole = rw c.in-Ok.is at c.claim_moments.type_inv in
    let fits : c.in-Ok.moments.first ≤ end_of_time = omega (arith, whole.1.1.1.1.1.0.1.1.0.1) in
    let held = rw c.in-None.is at c.in_ok-failed_test.ensures in
    all_claimed c.args.token.now keys (options_of c.args.validation.now) (g.K.KeyFinder.refusal c.args.keys.now)
    (g.K.KeyFinder.accepts c.args.keys.now) g.T.Claims.reads (order_by keys) (reads_value_by keys) has x.0 x.1
    c.in-Ok.moments x.2 fits held

pub returns-in-Some : goal.returns-in-Some
returns-in-Some g c =
    let keys = g.K.KeyFinder.source c.args.keys.now in
    let call = finding g.K.KeyFinder g.T.Claims c.args.keys.now c.args.token.now (options_of c.args.validation.now) 0 in
    let has : HasMoments call (order_by keys) =
    (laws_by call keys c.args.token.now (g.met.K.KeyFinder.same_family c.args.keys.now)).moments in
    let x = c.in-Ok.ensures in
    let whole = rw c.in-Ok.is at c.claim_moments.type_inv in
    let fits : c.in-Ok.moments.first ≤ end_of_time = omega (arith, whole.1.1.1.1.1.0.1.1.0.1) in
    let failed = rw c.in-Some.is at c.in_ok-failed_test.ensures in
    none_claimed c.args.token.now keys (options_of c.args.validation.now) (g.K.KeyFinder.refusal c.args.keys.now)
    (g.K.KeyFinder.accepts c.args.keys.now) g.T.Claims.reads (order_by keys) (reads_value_by keys) has x.0 x.1
    c.in-Ok.moments x.2 fits _ failed
