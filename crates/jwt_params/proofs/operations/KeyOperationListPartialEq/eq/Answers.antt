use Rattle.jwt_params.specs.equality.NamesSame.{operations_decides}
use Rattle.jwt_params.proofs.operations.KeyOperationListPartialEq.eq.Goals as goal

pub returns-clause-same : goal.returns-clause-same
returns-clause-same c = rw c.is_same.ensures (operations_decides c.args.self.now c.args.other.now)
