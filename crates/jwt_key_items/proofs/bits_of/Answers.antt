use Rattle.jwt_key_items.proofs.KeyLemmas.{twelve_bits}
use Rattle.jwt_key_items.proofs.bits_of.Goals as goal

pub returns-clause-ok : goal.returns-clause-ok
returns-clause-ok c = twelve_bits c.args.jwk.now _ _ _ _ _ _ _ _ _ _ _ _
    c.in_ok-hs256.ensures.ok c.in_ok-hs384.ensures.ok c.in_ok-hs512.ensures.ok
    c.in_ok-rs256.ensures.ok c.in_ok-rs384.ensures.ok c.in_ok-rs512.ensures.ok
    c.in_ok-ps256.ensures.ok c.in_ok-ps384.ensures.ok c.in_ok-ps512.ensures.ok
    c.in_ok-es256.ensures.ok c.in_ok-es384.ensures.ok c.in_ok-eddsa.ensures.ok
