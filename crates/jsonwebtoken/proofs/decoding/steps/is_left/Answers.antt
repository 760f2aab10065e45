use Rattle.std.proofs.Common.{◌≡◌, ◌∙◌, Bool, true, false, inl, inr, refl, sym, ⊎_elim}
use Rattle.std.proofs.lemmas.Bool.{false≢true}
use mathlib.Core.Bool.{not}
use Rattle.jsonwebtoken.proofs.FamilyLemmas.{is_left, left_within}
use Rattle.jsonwebtoken.proofs.decoding.steps.is_left.Goals as goal

opposite : (b : Bool) → ¬ (b ≡ true) → not b ≡ true
opposite true never = absurd (never refl)
opposite false never = refl

both : (b : Bool) → b ≡ true → not b ≡ true → ⊥
both true one other = false≢true other
both false one other = false≢true one

pub returns-then-is_of : goal.returns-then-is_of
returns-then-is_of c =
    let left = is_left c.args.family c.args.algorithms.now c.args.algorithm (c.is_listed.ensures.0 c.if-is_listed.true) in
    (λ t. left.0 (inl (c.is_of.ensures.0 t)), λ l. c.if-is_of.true)

pub returns-else-is_of : goal.returns-else-is_of
returns-else-is_of c =
    let left = is_left c.args.family c.args.algorithms.now c.args.algorithm (c.is_listed.ensures.0 c.if-is_listed.true) in (
      λ t. left.0 (inr (λ some. both c.has_family.result (c.has_family.ensures.1 some) t)),
      λ l. ⊎_elim (λ e. absurd (false≢true (sym c.if-is_of.false ∙ c.is_of.ensures.1 e)))
          (λ none. opposite c.has_family.result (λ t. none (c.has_family.ensures.0 t))) (left.1 l),
    )

pub returns-else-is_listed : goal.returns-else-is_listed
returns-else-is_listed c = (
  λ t. absurd (false≢true (sym c.if-is_listed.false ∙ t)),
  λ l. c.is_listed.ensures.1 (left_within c.args.family c.args.algorithms.now c.args.algorithm l),
)
