use Rattle.std.proofs.Common.{◌≡◌, take}
use Rattle.jwt_secrets.specs.Base64Texts.{characters}
use Rattle.jwt_secrets.proofs.base64_texts.characters.Given as goal

abbrev pub invariant-loop-byte : goal.invariant-loop-byte
invariant-loop-byte l = l.found.items ≡ characters (take l.byte-index l.text)
