use Rattle.std.proofs.Common.{take}
use Rattle.std.specs.List.{All}
use Rattle.jwt_secrets.specs.KeyTexts.{JwkHasKeyText}
use Rattle.jwt_secrets.proofs.key_texts.set_has_key_text.Given as goal

abbrev pub invariant-loop-jwk : goal.invariant-loop-jwk
invariant-loop-jwk l = All (λ jwk. ¬ JwkHasKeyText jwk) (take l.jwk-index l.set.keys.items)
