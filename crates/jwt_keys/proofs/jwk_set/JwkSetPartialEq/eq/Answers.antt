use Rattle.jwt_keys.specs.equality.JwkSame.{set_decides}
use Rattle.jwt_keys.proofs.jwk_set.JwkSetPartialEq.eq.Goals as goal

pub returns-clause-same : goal.returns-clause-same
returns-clause-same c = rw c.is_same.ensures (set_decides c.args.self.now c.args.other.now)
