use Rattle.jwt_secrets.proofs.ZeroBytes.{one_more, all_bytes}
use Rattle.jwt_secrets.proofs.is_blank.Goals as goal

pub loop-byte-preserved : goal.loop-byte-preserved
loop-byte-preserved c = one_more c.args.secret.now c.loop-byte.byte-index c.loop-byte.bits c.loop-byte-test.true
    c.loop-byte.invariant

pub returns : goal.returns
returns c = all_bytes c.args.secret.now c.loop-byte.byte-index c.loop-byte.bits c.loop-byte-test.false c.loop-byte.invariant
