use Rattle.jwt_verifier.proofs.RingLemmas.{has_named}
use Rattle.jwt_verifier.proofs.ring_finder.entry_named.Goals as goal

pub returns : goal.returns
returns c = has_named c.args.keys.now c.args.header.now c.in-Some.kid c.args.named.now c.in-Some.is c.requires
    c.get.result (rw c.as_str.ensures at c.get.ensures.value)
