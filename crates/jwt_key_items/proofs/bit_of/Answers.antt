use Rattle.std.proofs.Common.{◌∙◌, inr, refl, sym}
use Rattle.std.proofs.lemmas.Bool.{false≢true}
use Rattle.jwt_key_items.proofs.KeyLemmas.{not_by}
use Rattle.jwt_key_items.proofs.bit_of.Goals as goal
use Rattle.jwt_key_items.proofs.bit_of.Goals.{else-agrees-via-then-agrees+then-has_named_curve+in_ok-serves+else-branch, else-agrees-via-then-agrees+else-has_named_curve, else-agrees-via-else-agrees}

pub returns-else-agrees-clause-ok : goal.returns-else-agrees-clause-ok
returns-else-agrees-clause-ok c = elim c.else-agrees.branch [
  | else-agrees-via-then-agrees+then-has_named_curve+in_ok-serves+else-branch w ↦ inr (
    not_by c.args.jwk.now _ c.requires _
        (λ e. false≢true (sym w.if-branch.false ∙ w.in_ok-serves.ensures.ok.1 e)),
    refl,
  )
  | else-agrees-via-then-agrees+else-has_named_curve w ↦
      inr (λ v. false≢true (sym w.if-has_named_curve.false ∙ w.has_named_curve.ensures.1 v.1), refl)
  | else-agrees-via-else-agrees w ↦ inr (λ v. false≢true (sym w.if-agrees.false ∙ c.agrees.ensures.1 v.0), refl)
]
