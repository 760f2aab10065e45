use Rattle.jwt_keys.specs.Key.{Key}
use Rattle.jwt_keys.specs.KeyOfJwk.{IsKeyOf, refusal_of}
use Rattle.jsonwebtoken.specs.Tests.{KeyIsUsable}
use Rattle.jsonwebtoken.proofs.Exits.{finds}
use Rattle.jsonwebtoken.proofs.decoding.key_set.key_of_jwk.Goals as goal

pub returns : goal.returns
returns c = finds KeyIsUsable (IsKeyOf c.args.jwk.now.algorithm) ((k : Key) → ¬ IsKeyOf c.args.jwk.now.algorithm k)
    (refusal_of c.args.jwk.now.algorithm)
    c.from_jwk.result _ c.with_test.ensures c.from_jwk.ensures.ok c.from_jwk.ensures.err
