use Rattle.std.proofs.Common.{arith}
use Rattle.std.proofs.lemmas.Grind.{common_steps}
use Rattle.jwt_key_files.proofs.Blocks.{characters_none, more_white, more_kept}
use Rattle.jwt_key_files.proofs.block.characters.Goals as goal
use Rattle.jwt_key_files.proofs.block.characters.Goals.{then-not-is_white+in_ok-push, else-not-is_white}

pub loop-byte-init : goal.loop-byte-init
loop-byte-init c = let e = characters_none in cc

pub loop-byte-preserved : goal.loop-byte-preserved
loop-byte-preserved c = elim c.if-not-is_white.branch [
  | then-not-is_white+in_ok-push w ↦ grind (arith, common_steps, more_kept)
  | else-not-is_white w ↦ grind (arith, common_steps, more_white)
]
