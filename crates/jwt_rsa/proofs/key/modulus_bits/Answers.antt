use Rattle.std.proofs.Common.{◌<◌, inl, inr, length, refl, ◌∙◌, arith}
use Rattle.jwt_rsa.proofs.KeyTests.{bits_refused, bits_taken}
use Rattle.jwt_rsa.proofs.key.modulus_bits.Goals as goal
use Rattle.jwt_rsa.proofs.key.modulus_bits.Goals.{then-octets-lt256-via-then-octets-lt256}
use Rattle.jwt_rsa.proofs.key.modulus_bits.Goals.{then-octets-lt256-via-else-octets-lt256+then-octets-gt2048}

pub returns-then-octets-lt256 : goal.returns-then-octets-lt256
returns-then-octets-lt256 c =
    let e = c.significant-octets.ensures in
    let n = c.args.n.now in
    let s = c.significant-octets.result.now in
    elim c.then-octets-lt256.branch [
      | then-octets-lt256-via-then-octets-lt256 w ↦ rw (bits_refused n s e.bits e.front (e.octets 0)
          (inl w.if-octets-lt256.true)) refl
      | then-octets-lt256-via-else-octets-lt256+then-octets-gt2048 w ↦ rw (bits_refused n s e.bits e.front (e.octets 0)
          (inr w.if-octets-gt2048.true)) refl
    ]

pub returns : goal.returns
returns c =
    let e = c.significant-octets.ensures in
    let s = c.significant-octets.result.now in
    let some : 0 < length s = omega arith in
    c.then_some.ensures ∙ bits_taken c.args.n.now s _ e.bits some (e.front some) (e.octets 0) c.if-octets-gt2048.false refl
