use Rattle.jwt_secrets.specs.KeyTexts.{first_tags}
use Rattle.jwt_secrets.proofs.key_texts.first_tags.Goals as goal

pub returns : goal.returns
unfolding first_tags
returns c = cc
