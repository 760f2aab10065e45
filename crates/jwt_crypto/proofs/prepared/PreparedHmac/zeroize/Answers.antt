use Rattle.std.proofs.Common.{arith}
use Rattle.std.proofs.lemmas.List.{length-map}
use Rattle.jwt_crypto.specs.HmacPrepared.{prepared_key, prepared_keys}
use Rattle.jwt_crypto.proofs.PreparedKeys.{cleared_more}
use Rattle.jwt_crypto.proofs.prepared.PreparedHmac.zeroize.Goals as goal

pub loop-key-preserved : goal.loop-key-preserved
loop-key-preserved c =
    let secret = c.zeroize.ensures.secret in
    let hash = c.zeroize.ensures.hash in
    let here = c.key-item.is in
    let all = length-map c.args.self.now.keys.items prepared_key in
    cleared_more c.loop-key.key-items (prepared_keys c.args.self.now) c.loop-key.key-index c.key-item.result
    c.zeroize.new.self (omega (arith, all)) (omega arith) c.loop-key.invariant c.key-item.is cc
