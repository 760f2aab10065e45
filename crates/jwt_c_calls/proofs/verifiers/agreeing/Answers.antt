use Rattle.std.proofs.Common.{◌∙◌, subst, sym, List}
use Rattle.std.proofs.lemmas.List.{take_all}
use Rattle.std.proofs.lemmas.Bool.{false≢true}
use Rattle.jwt_base.specs.declared.algorithms.Algorithm.{Algorithm}
use Rattle.jwt_c_calls.specs.Verifiers.{HasAgreeing}
use Rattle.jwt_c_calls.proofs.Agreeing.{agreeing, differing}
use Rattle.jwt_c_calls.proofs.verifiers.agreeing.Goals.{then-agrees+in_ok-push, else-agrees}
use Rattle.jwt_c_calls.proofs.verifiers.agreeing.Goals as goal

pub loop-algorithm-preserved : goal.loop-algorithm-preserved
loop-algorithm-preserved c = elim c.if-agrees.branch [
  | then-agrees+in_ok-push w ↦ rw w.left-is (rw w.in_ok-push.ensures.items
      (agreeing c.args.jwk.now c.args.algorithms.now c.loop-algorithm.algorithm-index _ c.loop-algorithm-test.true
      c.loop-algorithm.left.items c.loop-algorithm.invariant (c.agrees.ensures.0 w.if-agrees.true)))
  | else-agrees w ↦ rw w.left-is
      (differing c.args.jwk.now c.args.algorithms.now c.loop-algorithm.algorithm-index _ c.loop-algorithm-test.true
      c.loop-algorithm.left.items c.loop-algorithm.invariant (λ a. false≢true (sym w.if-agrees.false ∙ c.agrees.ensures.1 a)))
]

pub returns-clause-ok : goal.returns-clause-ok
returns-clause-ok c = subst (λ (l : List Algorithm). HasAgreeing c.args.jwk.now l c.loop-algorithm.left.items)
    (take_all c.loop-algorithm.algorithm-index c.args.algorithms.now c.loop-algorithm-test.false) c.loop-algorithm.invariant
