use Rattle.std.proofs.Common.{◌≡◌, ◌∙◌, List, None, subst, sym}
use Rattle.std.specs.List.{All}
use Rattle.std.proofs.lemmas.Bool.{false≢true}
use Rattle.std.proofs.lemmas.List.{take_all}
use Rattle.std.proofs.lemmas.List.Elements.{All-more}
use Rattle.jwt_base.specs.declared.algorithms.Algorithm.{Algorithm}
use Rattle.jwt_standard.specs.StandardKeys.{verifier_refusal}
use Rattle.jsonwebtoken.specs.Tests.{AgreesWith}
use Rattle.jwt_verifier.proofs.fitness.serves_as.Goals as goal

pub loop-algorithm-preserved : goal.loop-algorithm-preserved
loop-algorithm-preserved c =
    All-more (λ a. ¬ (AgreesWith a c.args.jwk.now × (verifier_refusal a c.args.key.now ≡ None))) c.args.algorithms.now
    c.loop-algorithm.algorithm-index _ c.loop-algorithm-test.true c.loop-algorithm.invariant
    (λ b. absurd (false≢true (sym c.if-branch.false ∙ c.in_ok-fits.ensures.ok.1 b)))

pub returns-clause-ok : goal.returns-clause-ok
returns-clause-ok c =
    let Fitting : Algorithm → Type 0 = λ a. AgreesWith a c.args.jwk.now × (verifier_refusal a c.args.key.now ≡ None) in
    let none : All (λ a. ¬ Fitting a) c.args.algorithms.now =
    subst (λ (l : List Algorithm). All (λ a. ¬ Fitting a) l)
    (take_all c.loop-algorithm.algorithm-index c.args.algorithms.now c.loop-algorithm-test.false)
    c.loop-algorithm.invariant in
    (λ t. absurd (false≢true t), λ b. absurd (none b.0 b.1 b.2 (subst Fitting (sym b.3) b.4)))
