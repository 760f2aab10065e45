use Rattle.std.proofs.Common.{ℕ, List, refl, subst, ◌+◌, length}
use Rattle.memchr.specs.Find.{OccursAt, Nowhere}
use Rattle.jwt_secrets.proofs.Marks.{found, missed}
use Rattle.jwt_secrets.proofs.key_texts.has.Goals as goal

pub returns-in-Some : goal.returns-in-Some
returns-in-Some c = (
  λ _. found c.args.text.now c.args.mark.now c.in-Some.field-0
      (subst (λ (m : List ℕ). OccursAt c.args.text.now m c.in-Some.field-0) c.as_bytes.ensures.value c.in-Some.ensures.1),
  λ _. refl,
)

pub returns-in-None : goal.returns-in-None
returns-in-None c = (
  λ t. cc,
  λ h. absurd (missed c.args.text.now c.args.mark.now
      (subst (λ (m : List ℕ). Nowhere (OccursAt c.args.text.now m) 0 (length c.args.text.now + 1))
      c.as_bytes.ensures.value c.in-None.ensures) h),
)
