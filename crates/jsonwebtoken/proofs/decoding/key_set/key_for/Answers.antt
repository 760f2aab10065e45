use Rattle.std.proofs.Common.{◌≡◌, inl, inr, refl, sym}
use Rattle.jsonwebtoken.specs.Finder.{looking_by}
use Rattle.jsonwebtoken.specs.private_clauses.Steps.{no_contents, with_header}
use Rattle.jsonwebtoken.specs.Tests.{InSet, key_tests}
use Rattle.jsonwebtoken.proofs.Exits.{exit, not_both}
use Rattle.jsonwebtoken.proofs.decoding.key_set.key_for.Goals as goal

pub returns-in_default : goal.returns-in_default
returns-in_default c keys named = inr (
  no_contents,
  inl (λ j is. not_both _ j is (rw c.in_default.is at named), (sym c.new.ensures.test, c.new.ensures.kind)),
)

pub returns-in_err-check_key_algorithm : goal.returns-in_err-check_key_algorithm
returns-in_err-check_key_algorithm c keys named =
    exit (looking_by (InSet keys)) key_tests (with_header c.args.header.now) (λ t k. t.jwk_key ≡ k) _ _
    c.from_residual.ensures.1
    (λ f. (record no_contents { jwk = c.in-Some.jwk.now }, inr (rw c.in-Some.is at named, inl f)))
    c.in_err-check_key_algorithm.ensures

pub returns-in_err-key : goal.returns-in_err-key
returns-in_err-key c keys named =
    exit (looking_by (InSet keys)) key_tests (with_header c.args.header.now) (λ t k. t.jwk_key ≡ k) _ _
    c.from_residual-in_err-key.ensures.1
    (λ f. (
      record no_contents { jwk = c.in-Some.jwk.now },
      inr (rw c.in-Some.is at named, inr (c.in_ok-check_key_algorithm.ensures, inl f)),
    )) c.in_err-key.ensures

pub returns : goal.returns
returns c keys named = (
  record no_contents { jwk = c.in-Some.jwk.now; jwk_key = c.in_ok-key.key },
  (rw c.in-Some.is at named, (c.in_ok-check_key_algorithm.ensures, (c.in_ok-key.ensures, tt))),
  refl,
)
