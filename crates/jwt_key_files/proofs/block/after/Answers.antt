use Rattle.jwt_key_files.proofs.Texts.{no_prefix, a_prefix}
use Rattle.jwt_key_files.proofs.block.after.Goals as goal

pub returns-in_default : goal.returns-in_default
returns-in_default c = no_prefix _ _ c.in_default.ensures.cases

pub returns : goal.returns
returns c = a_prefix _ _ _ c.in-Some.ensures.cases.0 c.in-Some.ensures.cases.1
