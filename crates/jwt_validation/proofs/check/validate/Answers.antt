use Rattle.std.proofs.Common.{arith, Result, Ok, Err, refl}
use Rattle.std.specs.Prelude.{IsOk, OnOk}
use Rattle.jwt_validation.proofs.ClaimRuleLemmas.{within, held_within, rules-looser}
use Rattle.jwt_validation.proofs.check.validate.Goals as goal

OnOk-from : {T E : Type 0} (r : Result T E) (P : Type 0) → (IsOk r → P) → OnOk r P
OnOk-from (Ok x) P f = f refl
OnOk-from (Err e) P f = tt

pub returns-clause-moments : goal.returns-clause-moments
returns-clause-moments c = (
  λ ok. let h = c.check.ensures.ok.0 ok in let w = within _ _ _ (omega arith) h.1 in
      record { is_object = h.0; rules = w.0; from = w.1; until = w.2 },
  λ h. c.check.ensures.ok.1 (h.is_object, held_within _ _ _ h.rules h.from h.until),
)

pub returns-clause-looser : goal.returns-clause-looser
returns-clause-looser c = OnOk-from c.check.result _ (λ ok w l. rules-looser _ w _ _ l (c.check.ensures.ok.0 ok).1)
