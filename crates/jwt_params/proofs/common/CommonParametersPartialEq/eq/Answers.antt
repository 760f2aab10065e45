use Rattle.jwt_params.specs.equality.CommonSame.{common_decides}
use Rattle.jwt_params.proofs.common.CommonParametersPartialEq.eq.Goals as goal

pub returns-clause-same : goal.returns-clause-same
returns-clause-same c = rw c.is_same.ensures (common_decides c.args.self.now c.args.other.now)
