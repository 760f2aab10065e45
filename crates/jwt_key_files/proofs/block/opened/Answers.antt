use Rattle.jwt_key_files.proofs.Texts.{no_dashes, an_opening}
use Rattle.jwt_key_files.proofs.block.opened.Goals as goal

pub returns-in_default-after : goal.returns-in_default-after
returns-in_default-after c = no_dashes _ _ _ c.in-Some.ensures c.in_default-after.ensures

pub returns : goal.returns
returns c = an_opening _ _ _ _ c.in-Some.ensures c.in-Some-after.ensures
