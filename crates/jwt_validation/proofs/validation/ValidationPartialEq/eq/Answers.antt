use Rattle.jwt_validation.specs.equality.ValidationEq.{validation_decides}
use Rattle.jwt_validation.proofs.validation.ValidationPartialEq.eq.Goals as goal

pub returns-clause-same : goal.returns-clause-same
returns-clause-same c = rw c.asks_same.ensures (validation_decides c.args.self.now c.args.other.now)
