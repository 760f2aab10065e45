use Rattle.std.proofs.Common.{sym, ◌∙◌, arith}
use Rattle.std.proofs.lemmas.Bool.{false≢true}
use Rattle.jwt_secrets.specs.KeyTexts.{first_tags, BeginWithElements}
use Rattle.jwt_secrets.proofs.Tables.{long_first_tags, some, none_more, none}
use Rattle.jwt_secrets.proofs.key_texts.begins_key.Goals as goal

pub returns-then-begin_with_elements : goal.returns-then-begin_with_elements
returns-then-begin_with_elements c = (
  λ _. some (BeginWithElements c.args.content.now) c.first_tags-tags-items.result first_tags c.loop-tags.tags-index
      c.first_tags-tags-items.ensures
      (omega (arith, long_first_tags)) (c.begin_with_elements.ensures.0 c.if-begin_with_elements.true),
  λ _. cc,
)

pub loop-tags-preserved : goal.loop-tags-preserved
loop-tags-preserved c =
    none_more (BeginWithElements c.args.content.now) c.first_tags-tags-items.result first_tags c.loop-tags.tags-index
    c.first_tags-tags-items.ensures
    (omega (arith, long_first_tags)) c.loop-tags.invariant
    (λ h. absurd (false≢true (sym c.if-begin_with_elements.false ∙ c.begin_with_elements.ensures.1 h)))

pub returns : goal.returns
returns c = (
  λ t. absurd (false≢true t),
  λ h. absurd (none (BeginWithElements c.args.content.now) first_tags c.loop-tags.tags-index
      (omega (arith, long_first_tags)) c.loop-tags.invariant h),
)
