use Rattle.std.proofs.Common.{sym, ◌∙◌, arith}
use Rattle.std.proofs.lemmas.Bool.{false≢true}
use Rattle.jwt_secrets.specs.KeyTexts.{marks, Has}
use Rattle.jwt_secrets.proofs.Tables.{long_marks, some, none_more, none}
use Rattle.jwt_secrets.proofs.key_texts.is_marked.Goals as goal

pub returns-then-has : goal.returns-then-has
returns-then-has c = (
  λ _. some (Has c.args.text.now) c.marks-mark-items.result marks c.loop-mark.mark-index c.marks-mark-items.ensures
      (omega (arith, long_marks)) (c.has.ensures.0 c.if-has.true),
  λ _. cc,
)

pub loop-mark-preserved : goal.loop-mark-preserved
loop-mark-preserved c =
    none_more (Has c.args.text.now) c.marks-mark-items.result marks c.loop-mark.mark-index c.marks-mark-items.ensures
    (omega (arith, long_marks)) c.loop-mark.invariant (λ h. absurd (false≢true (sym c.if-has.false ∙ c.has.ensures.1 h)))

pub returns : goal.returns
returns c = (
  λ t. absurd (false≢true t),
  λ h. absurd (none (Has c.args.text.now) marks c.loop-mark.mark-index (omega (arith, long_marks)) c.loop-mark.invariant h),
)
