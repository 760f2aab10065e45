use Rattle.jwt_key_files.proofs.Texts.{no_label, no_last, a_closing}
use Rattle.jwt_key_files.proofs.block.closing.Goals as goal

pub returns-in_default-after : goal.returns-in_default-after
returns-in_default-after c = no_label _ _ _ c.in-Some.ensures c.in_default-after.ensures

pub returns-in_default-after-2 : goal.returns-in_default-after-2
returns-in_default-after-2 c = no_last _ _ _ _ c.in-Some.ensures c.in-Some-after.ensures c.in_default-after-2.ensures

pub returns : goal.returns
returns c = a_closing _ _ _ _ _ c.in-Some.ensures c.in-Some-after.ensures c.in-Some-after-2.ensures
