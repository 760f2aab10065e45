use Rattle.std.proofs.Common.{refl}
use Rattle.jwt_key_files.proofs.Parts.{no_private, no_version, empty_version, high_version, long_version, a_private}
use Rattle.jwt_key_files.proofs.structures.is_private.Goals as goal

pub returns-in_default : goal.returns-in_default
returns-in_default c = (λ f. cc, λ x. absurd (no_private _ c.in_default.ensures x))

pub returns-in_default-read : goal.returns-in_default-read
returns-in_default-read c = (λ f. cc, λ x. absurd (no_version _ _ c.in-Some.ensures c.in_default-read.ensures x))

pub returns-in_default-next : goal.returns-in_default-next
returns-in_default-next c = (
  λ f. cc,
  λ x. absurd (empty_version _ _ _ _ c.in-Some.ensures c.in-Some-read.ensures c.in_default-next.ensures x),
)

pub returns-then-number-gt1 : goal.returns-then-number-gt1
returns-then-number-gt1 c = (
  λ f. cc,
  λ x. absurd (high_version _ _ _ _ _ _ c.in-Some.ensures c.in-Some-read.ensures c.in-Some-next.ensures
      c.if-number-gt1.true x),
)

pub returns-then-more-gt0 : goal.returns-then-more-gt0
returns-then-more-gt0 c = (
  λ f. cc,
  λ x. absurd (long_version _ _ _ _ _ _ c.in-Some.ensures c.in-Some-read.ensures c.in-Some-next.ensures
      c.if-more-gt0.true x),
)

pub returns : goal.returns
returns c = (
  λ f. a_private _ _ _ _ _ _ c.in-Some.ensures c.in-Some-read.ensures c.in-Some-next.ensures c.if-number-gt1.false
      c.if-more-gt0.false,
  λ x. refl,
)
