use Rattle.std.proofs.Common.{◌++◌, ◌∙◌, ap}
use Rattle.jwt_crypto.specs.Hmac.{nested, hash_bytes}
use Rattle.jwt_crypto.specs.declared.hmac.Hash.TheVariants.{Sha384}
use Rattle.jwt_crypto.proofs.hmac.nested_384.Goals as goal

pub returns : goal.returns
unfolding nested
returns c = c.nested_by.ensures.2 ∙ ap (λ i. hash_bytes Sha384 (c.args.outer.now ++ i)) c.nested_by.ensures.1
