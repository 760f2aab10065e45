use Rattle.std.proofs.Common.{take}
use Rattle.std.specs.List.{All}
use Rattle.jwt_secrets.specs.KeyTexts.{first_tags, BeginWithElements}
use Rattle.jwt_secrets.proofs.key_texts.begins_key.Given as goal

abbrev pub invariant-loop-tags : goal.invariant-loop-tags
invariant-loop-tags l = All (λ tags. ¬ BeginWithElements l.content tags) (take l.tags-index first_tags)
