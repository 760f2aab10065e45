use Rattle.jwt_params.specs.equality.ParametersSame.{parameters_decides}
use Rattle.jwt_params.proofs.parameters.AlgorithmParametersPartialEq.eq.Goals as goal

pub returns-clause-same : goal.returns-clause-same
returns-clause-same c = rw c.is_same.ensures (parameters_decides c.args.self.now c.args.other.now)
