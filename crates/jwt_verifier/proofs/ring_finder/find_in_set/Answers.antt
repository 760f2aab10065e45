use Rattle.std.proofs.Common.{◌≡◌, inl, inr, refl}
use Rattle.jsonwebtoken.proofs.Exits.{exit, not_both}
use Rattle.jsonwebtoken.specs.Finder.{looking_by}
use Rattle.jsonwebtoken.specs.Tests.{InSet, key_tests}
use Rattle.jsonwebtoken.specs.private_clauses.Steps.{no_contents, with_header}
use Rattle.jwt_verifier.specs.RingFound.{found_key}
use Rattle.jwt_verifier.proofs.RingLemmas.{of_entry}
use Rattle.jwt_verifier.proofs.ring_finder.find_in_set.Goals as goal

pub returns-in_err-entry-clause-found : goal.returns-in_err-entry-clause-found
returns-in_err-entry-clause-found c =
    exit (looking_by (InSet c.args.set.now.keys.items)) key_tests (with_header c.args.header.now) (λ t f. t.jwk_key ≡ found_key f)
    _ _ c.from_residual.ensures.1
    (λ f. (no_contents, inl (λ j is. not_both _ j is f.0, f.1))) (rw c.as_slice.ensures.value at c.in_err-entry.ensures)

pub returns-in_err-check_key_algorithm-clause-found : goal.returns-in_err-check_key_algorithm-clause-found
returns-in_err-check_key_algorithm-clause-found c =
    let jwk = c.index-jwk.result.now in
    let entry = of_entry c.args.set.now.keys.items c.args.header.now c.in_ok-entry.entry.now jwk
    (rw c.as_slice.ensures.value at c.in_ok-entry.ensures) c.index-jwk.ensures in
    exit (looking_by (InSet c.args.set.now.keys.items)) key_tests (with_header c.args.header.now) (λ t f. t.jwk_key ≡ found_key f)
    _ _ c.from_residual-in_err-check_key_algorithm.ensures.1
    (λ f. (record no_contents { jwk = jwk }, inr (entry.0, inl f)))
    c.in_err-check_key_algorithm.ensures

pub returns-in_err-key-in-None-clause-found : goal.returns-in_err-key-in-None-clause-found
returns-in_err-key-in-None-clause-found c =
    let jwk = c.index-jwk.result.now in
    let entry = of_entry c.args.set.now.keys.items c.args.header.now c.in_ok-entry.entry.now jwk
    (rw c.as_slice.ensures.value at c.in_ok-entry.ensures) c.index-jwk.ensures in
    exit (looking_by (InSet c.args.set.now.keys.items)) key_tests (with_header c.args.header.now) (λ t f. t.jwk_key ≡ found_key f)
    _ _ c.from_residual-in_err-key-in-None.ensures.1
    (λ f. (record no_contents { jwk = jwk }, inr (entry.0, inr (c.in_ok-check_key_algorithm.ensures, inl f))))
    c.in_err-key-in-None.ensures

pub returns-in-Some-clause-found : goal.returns-in-Some-clause-found
returns-in-Some-clause-found c =
    let jwk = c.index-jwk.result.now in
    let entry = of_entry c.args.set.now.keys.items c.args.header.now c.in_ok-entry.entry.now jwk
    (rw c.as_slice.ensures.value at c.in_ok-entry.ensures) c.index-jwk.ensures in (
      record no_contents { jwk = jwk; jwk_key = c.in-Some.key },
      (entry.0, (c.in_ok-check_key_algorithm.ensures, (entry.1 c.in-Some.key c.in-Some.is, tt))),
      refl,
    )

pub returns-in_ok-key-in-None-clause-found : goal.returns-in_ok-key-in-None-clause-found
returns-in_ok-key-in-None-clause-found c =
    let jwk = c.index-jwk.result.now in
    let entry = of_entry c.args.set.now.keys.items c.args.header.now c.in_ok-entry.entry.now jwk
    (rw c.as_slice.ensures.value at c.in_ok-entry.ensures) c.index-jwk.ensures in (
      record no_contents { jwk = jwk; jwk_key = c.in_ok-key-in-None.key },
      (entry.0, (c.in_ok-check_key_algorithm.ensures, (c.in_ok-key-in-None.ensures, tt))),
      refl,
    )
