use Rattle.std.proofs.Common.{◌<◌, length, arith, get_or, bit_xor}
use Rattle.std.proofs.lemmas.List.{get_or_default}
use Rattle.std.proofs.lemmas.List.Edits.{map_over_more}
use Rattle.jwt_crypto.proofs.hmac.mask_bytes.Goals as goal

pub loop-byte-preserved : goal.loop-byte-preserved
loop-byte-preserved c =
    let i = c.loop-byte.byte-index in
    let ys = c.loop-byte.byte-items in
    let x = get_or ys i 0 in
    let lt : i < length ys = omega arith in
    map_over_more (λ b. bit_xor b c.args.mask) c.args.bytes.now ys i x (omega arith) c.loop-byte.invariant
    (get_or_default ys i 0 x lt)
