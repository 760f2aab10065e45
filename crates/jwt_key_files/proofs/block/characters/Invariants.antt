use Rattle.std.proofs.Common.{◌≡◌, take}
use Rattle.jwt_key_files.specs.Pem.{characters_of}
use Rattle.jwt_key_files.proofs.block.characters.Given as goal

abbrev pub invariant-loop-byte : goal.invariant-loop-byte
invariant-loop-byte l = l.characters.items ≡ characters_of (take l.byte-index l.body)
