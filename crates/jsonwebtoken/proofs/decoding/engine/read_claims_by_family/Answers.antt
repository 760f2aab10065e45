use Rattle.std.proofs.Common.{[], ◌++◌, List, inl, inr, subst}
use Rattle.jwt_base.specs.declared.algorithms.Algorithm.{Algorithm}
use Rattle.jwt_validation.specs.OptionsOf.{options_of}
use Rattle.jsonwebtoken.specs.Family.{family_by, with_family}
use Rattle.jsonwebtoken.specs.Finder.{finding_tests, tests_after_header}
use Rattle.jsonwebtoken.specs.Finding.{finding}
use Rattle.jsonwebtoken.specs.Order.{Passes}
use Rattle.jsonwebtoken.specs.Own.{with_algorithms}
use Rattle.jsonwebtoken.specs.private_clauses.Asking.{given_key}
use Rattle.jsonwebtoken.specs.private_clauses.Steps.{ShowsClaims, no_contents, parts_in, with_opening}
use Rattle.jsonwebtoken.specs.Tests.{algorithm_tests, key_of, verifying_tests, token_tests}
use Rattle.jsonwebtoken.proofs.EachTest.{join}
use Rattle.jsonwebtoken.proofs.Exits.{exit, early, later}
use Rattle.jsonwebtoken.proofs.FamilyAnswers.{failed_by_list, left_is}
use Rattle.jsonwebtoken.proofs.FinderLemmas.{failed_by_key, found_passes, found_failed, passes_by_key}
use Rattle.jsonwebtoken.proofs.decoding.engine.read_claims_by_family.Goals as goal

pub returns-in_err-check_crit : goal.returns-in_err-check_crit
returns-in_err-check_crit g c =
    let h = c.args.opening.now.header.now in
    let call = with_family (finding g.K.KeyFinder g.T.Claims c.args.keys.now [] (options_of c.args.validation.now) c.args.time)
    (family_by (g.K.KeyFinder.source c.args.keys.now) h) in
    exit call (tests_after_header call.keys) (with_opening (parts_in c.args.opening.now.parts.now) h)
    (ShowsClaims g.T.Claims.reads) _ _ c.from_residual.ensures.1
    (λ f. (no_contents, inl f)) c.in_err-check_crit.ensures

pub returns-in_err-found : goal.returns-in_err-found
returns-in_err-found g c =
    let p = parts_in c.args.opening.now.parts.now in
    let h = c.args.opening.now.header.now in
    let call = with_family (finding g.K.KeyFinder g.T.Claims c.args.keys.now [] (options_of c.args.validation.now) c.args.time)
    (family_by (g.K.KeyFinder.source c.args.keys.now) h) in
    let at = with_opening p h in
    exit call (tests_after_header call.keys) at (ShowsClaims g.T.Claims.reads) _ _ c.from_residual-in_err-found.ensures.1
    (λ f. (
      f.0,
      inr (
        c.in_ok-check_crit.ensures,
        early call (finding_tests call.keys) (algorithm_tests ++ verifying_tests)
            (at f.0) _ _ (found_failed call call.keys p h f.0 _ _ f.1),
      ),
    )) c.in_err-found.ensures

pub returns-in_err-claims : goal.returns-in_err-claims
returns-in_err-claims g c =
    let p = parts_in c.args.opening.now.parts.now in
    let h = c.args.opening.now.header.now in
    let o = options_of c.args.validation.now in
    let base = finding g.K.KeyFinder g.T.Claims c.args.keys.now [] o c.args.time in
    let call = with_family base (family_by base.keys h) in
    let at = with_opening p h in
    let n = c.in_ok-found.ensures in
    let key = g.K.KeyFinder.key c.args.keys.now c.in_ok-found.found in
    let same = left_is base.keys h n.0 n.1 key n.2 c.family.result c.family.ensures _ o.algorithms c.as_slice.ensures.value in
    exit call (tests_after_header call.keys) at (ShowsClaims g.T.Claims.reads) _ _ c.from_residual-in_err-claims.ensures.1
    (λ f. let x = record f.0 { jwk = n.0.jwk; jwk_key = n.0.jwk_key } in (
      x,
      inr (
        c.in_ok-check_crit.ensures,
        later call (finding_tests call.keys) (algorithm_tests ++ verifying_tests)
            (at x) _ _ (found_passes call call.keys p h n.0 f.0 n.1)
            (failed_by_key call (algorithm_tests ++ verifying_tests) (at f.0) _ _ (key_of call.keys n.0.jwk_key) _ n.2
            (failed_by_list base o key (algorithm_tests ++ verifying_tests) (at f.0) _ _ _ _ same f.1)),
      ),
    )) c.in_err-claims.ensures

pub returns : goal.returns
returns g c =
    let p = parts_in c.args.opening.now.parts.now in
    let h = c.args.opening.now.header.now in
    let o = options_of c.args.validation.now in
    let base = finding g.K.KeyFinder g.T.Claims c.args.keys.now [] o c.args.time in
    let call = with_family base (family_by base.keys h) in
    let n = c.in_ok-found.ensures in
    let f = c.in_ok-claims.ensures in
    let key = g.K.KeyFinder.key c.args.keys.now c.in_ok-found.found in
    let same = left_is base.keys h n.0 n.1 key n.2 c.family.result c.family.ensures _ o.algorithms c.as_slice.ensures.value in
    let x = record f.0 { jwk = n.0.jwk; jwk_key = n.0.jwk_key } in
    let s = with_opening p h x in
    let by_key : Passes (token_tests (given_key call key)) (algorithm_tests ++ verifying_tests) (with_opening p h f.0) =
    subst (λ (l : List Algorithm). Passes (token_tests (given_key (record base { options = with_algorithms o l }) key))
    (algorithm_tests ++ verifying_tests) (with_opening p h f.0)) same f.1 in
    let rest : Passes (token_tests call) (algorithm_tests ++ verifying_tests) s =
    passes_by_key call (algorithm_tests ++ verifying_tests) (with_opening p h f.0) (key_of call.keys n.0.jwk_key) _ n.2 by_key in (
      x,
      (
        c.in_ok-check_crit.ensures,
        join call (finding_tests call.keys) (algorithm_tests ++ verifying_tests) s
            (found_passes call call.keys p h n.0 f.0 n.1) rest,
      ),
      f.2,
    )
