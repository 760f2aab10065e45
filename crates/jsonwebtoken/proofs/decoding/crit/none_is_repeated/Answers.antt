use Rattle.std.proofs.Common.{refl, arith}
use Rattle.jsonwebtoken.proofs.Repeats.{repeated, still_apart, all_apart}
use Rattle.jsonwebtoken.proofs.decoding.crit.none_is_repeated.Goals as goal

pub loop-place-init : goal.loop-place-init
loop-place-init c = λ j none. absurd (omega arith)

pub loop-place-preserved : goal.loop-place-preserved
loop-place-preserved c = still_apart _ _ _ c.loop-place-test.true c.index-names-place.is c.if-contains.ensures.cases
    c.loop-place.invariant

pub returns-then-contains : goal.returns-then-contains
returns-then-contains c = (
  (λ no. absurd (cc)),
  λ apart.
      absurd (repeated _ _ _ c.loop-place-test.true c.index-names-place.is c.if-contains.ensures.cases apart),
)

pub returns : goal.returns
returns c = ((λ yes. all_apart _ _ c.loop-place-test.false c.loop-place.invariant), λ apart. refl)
