use Rattle.std.proofs.Common.{◌≡◌, ◌++◌, take, drop}
use Rattle.jwt_crypto.specs.Hmac.{masked}
use Rattle.jwt_crypto.proofs.hmac.mask_bytes.Given as goal

abbrev pub invariant-loop-byte : goal.invariant-loop-byte
invariant-loop-byte l = l.byte-items ≡ masked l.mask (take l.byte-index l.bytes) ++ drop l.byte-index l.bytes
