use Rattle.std.proofs.Common.{◌≡◌, ◌↔◌, take}
use Rattle.jwt_secrets.specs.Blank.{IsBlank}
use Rattle.jwt_secrets.proofs.is_blank.Given as goal

abbrev pub invariant-loop-byte : goal.invariant-loop-byte
invariant-loop-byte l = (l.bits ≡ 0) ↔ IsBlank (take l.byte-index l.secret)
