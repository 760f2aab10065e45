use Rattle.std.proofs.Common.{◌≡◌, ◌∙◌, All, subst, sym}
use Rattle.std.proofs.lemmas.Bool.{false≢true}
use Rattle.jwt_base.specs.Algorithm.{family_of}
use Rattle.jsonwebtoken.proofs.FamilyLemmas.{all_left, left_are_of}
use Rattle.jsonwebtoken.proofs.decoding.steps.left_are_of.Goals as goal

pub returns-then-has_family : goal.returns-then-has_family
returns-then-has_family c =
    let some = c.has_family.ensures.0 c.if-has_family.true in
    let are = left_are_of c.args.family c.args.algorithms.now c.args.algorithm some in
    (λ t. are.0 (c.is_of.ensures.0 t), λ all. c.is_of.ensures.1 (are.1 all))

pub returns : goal.returns
returns c =
    let left = all_left c.args.family c.args.algorithms.now
    (λ some. false≢true (sym c.if-has_family.false ∙ c.has_family.ensures.1 some)) in
    let are = rw c.family.ensures at c.are_all_of.ensures in (
      λ t. subst (All (λ b. family_of b ≡ family_of c.args.algorithm)) (sym left) (are.0 t),
      λ all. are.1 (subst (All (λ b. family_of b ≡ family_of c.args.algorithm)) left all),
    )
