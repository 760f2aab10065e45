use Rattle.std.proofs.Common.{arith}
use Rattle.jwt_crypto.proofs.SameBytes.{one_more, one_fewer}
use Rattle.jwt_crypto.proofs.comparison.is_same.Goals as goal

pub loop-i-preserved : goal.loop-i-preserved
loop-i-preserved c =
    let xs = c.args.expected.now in
    let ys = c.args.given.now in
    let i = c.loop-i.i in (
      one_more xs ys i c.loop-i.difference (omega arith) (omega arith) c.loop-i.invariant.0,
      one_fewer xs ys i c.loop-i.difference c.loop-i.invariant.1,
    )
