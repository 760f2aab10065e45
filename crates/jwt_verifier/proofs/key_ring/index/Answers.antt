use Rattle.std.proofs.Common.{arith}
use Rattle.jwt_verifier.proofs.PreparedLemmas.{none_named}
use Rattle.jwt_verifier.proofs.RingLemmas.{empty, whole_index}
use Rattle.jwt_verifier.proofs.key_ring.index.Goals as goal

pub loop-at-init : goal.loop-at-init
loop-at-init c = record {
  within = omega arith;
  index = empty c.args.keys.now c.new-named.result c.new-named.ensures.empty;
  room = omega (arith, none_named c.new-named.result c.new-named.ensures.empty);
}

pub loop-at-preserved : goal.loop-at-preserved
loop-at-preserved c = record {
  within = omega arith;
  index = c.in_ok-put.ensures.ok c.loop-at.invariant.index;
  room = omega (arith, c.in_ok-put.ensures.room);
}

pub returns-clause-ok : goal.returns-clause-ok
returns-clause-ok c = whole_index c.args.keys.now c.loop-at.at c.loop-at.named (omega arith) c.loop-at.invariant.index
