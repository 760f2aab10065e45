use Rattle.std.proofs.Common.{◌++◌, ◌∙◌, ap}
use Rattle.jwt_crypto.specs.Hmac.{nested, hmac, hash_bytes, outer_block}
use Rattle.jwt_crypto.specs.declared.hmac.Hash.TheVariants.{Sha256}
use Rattle.jwt_crypto.proofs.prepared_hashers.code_256.Goals as goal

pub returns : goal.returns
unfolding nested hmac
returns c secret first second =
    let found = c.finish_by.ensures _ _ (rw c.copy_256.ensures first) (rw c.copy_256-2.ensures second) in
    found.2 ∙ ap (λ i. hash_bytes Sha256 (outer_block Sha256 secret ++ i)) found.1
