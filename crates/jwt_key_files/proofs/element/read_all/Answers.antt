use Rattle.jwt_key_files.proofs.Prefixes.{no_whole, no_whole_of_more}
use Rattle.jwt_key_files.proofs.element.read_all.Goals as goal

pub returns-in_default : goal.returns-in_default
returns-in_default c = no_whole _ _ c.in_default.ensures

pub returns-then-rest-gt0 : goal.returns-then-rest-gt0
returns-then-rest-gt0 c = no_whole_of_more _ _ _ _ c.in-Some.ensures c.if-rest-gt0.true
