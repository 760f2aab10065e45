use Rattle.jwt_secrets.specs.KeyTexts.{all_tags}
use Rattle.jwt_secrets.proofs.key_texts.all_tags.Goals as goal

pub returns : goal.returns
unfolding all_tags
returns c = cc
