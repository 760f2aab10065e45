use Rattle.std.proofs.Common.{sym, ◌∙◌, arith}
use Rattle.std.proofs.lemmas.Bool.{false≢true}
use Rattle.jwt_secrets.specs.KeyTexts.{all_tags, AreElements}
use Rattle.jwt_secrets.proofs.Tables.{long_all_tags, some, none_more, none}
use Rattle.jwt_secrets.proofs.key_texts.is_whole_key.Goals as goal

pub returns-then-are_elements : goal.returns-then-are_elements
returns-then-are_elements c = (
  λ _. some (AreElements c.args.content.now) c.all_tags-tags-items.result all_tags c.loop-tags.tags-index
      c.all_tags-tags-items.ensures
      (omega (arith, long_all_tags)) (c.are_elements.ensures.0 c.if-are_elements.true),
  λ _. cc,
)

pub loop-tags-preserved : goal.loop-tags-preserved
loop-tags-preserved c =
    none_more (AreElements c.args.content.now) c.all_tags-tags-items.result all_tags c.loop-tags.tags-index
    c.all_tags-tags-items.ensures
    (omega (arith, long_all_tags)) c.loop-tags.invariant
    (λ h. absurd (false≢true (sym c.if-are_elements.false ∙ c.are_elements.ensures.1 h)))

pub returns : goal.returns
returns c = (
  λ t. absurd (false≢true t),
  λ h. absurd (none (AreElements c.args.content.now) all_tags c.loop-tags.tags-index (omega (arith, long_all_tags))
      c.loop-tags.invariant h),
)
