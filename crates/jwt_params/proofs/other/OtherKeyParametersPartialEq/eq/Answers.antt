use Rattle.jwt_params.specs.equality.ParametersSame.{other_decides}
use Rattle.jwt_params.proofs.other.OtherKeyParametersPartialEq.eq.Goals as goal

pub returns-clause-same : goal.returns-clause-same
returns-clause-same c = rw c.is_same.ensures (other_decides c.args.self.now c.args.other.now)
