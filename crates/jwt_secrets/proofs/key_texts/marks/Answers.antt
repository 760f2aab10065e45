use Rattle.std.proofs.Common.{refl}
use Rattle.jwt_secrets.specs.KeyTexts.{marks}
use Rattle.jwt_secrets.proofs.key_texts.marks.Goals as goal

pub returns : goal.returns
unfolding marks
returns c = refl
