use Rattle.jwt_header.specs.equality.HeaderSame.{header_decides}
use Rattle.jwt_header.proofs.header.HeaderPartialEq.eq.Goals as goal

pub returns-clause-same : goal.returns-clause-same
returns-clause-same c = rw c.is_same.ensures (header_decides c.args.self.now c.args.other.now)
