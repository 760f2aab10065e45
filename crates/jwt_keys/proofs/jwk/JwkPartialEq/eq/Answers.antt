use Rattle.jwt_keys.specs.equality.JwkSame.{key_decides}
use Rattle.jwt_keys.proofs.jwk.JwkPartialEq.eq.Goals as goal

pub returns-clause-same : goal.returns-clause-same
returns-clause-same c = rw c.is_same.ensures (key_decides c.args.self.now c.args.other.now)
