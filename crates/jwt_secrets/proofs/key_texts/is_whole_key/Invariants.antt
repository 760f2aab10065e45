use Rattle.std.proofs.Common.{take}
use Rattle.std.specs.List.{All}
use Rattle.jwt_secrets.specs.KeyTexts.{all_tags, AreElements}
use Rattle.jwt_secrets.proofs.key_texts.is_whole_key.Given as goal

abbrev pub invariant-loop-tags : goal.invariant-loop-tags
invariant-loop-tags l = All (λ tags. ¬ AreElements l.content tags) (take l.tags-index all_tags)
