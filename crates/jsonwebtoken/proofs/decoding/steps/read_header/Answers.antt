use Rattle.jsonwebtoken.proofs.Exits.{noted}
use Rattle.jsonwebtoken.proofs.decoding.steps.read_header.Goals as goal

pub returns : goal.returns
returns c = rw (noted _ c.read_header_noting-header.result _ c.with_test.ensures) at c.read_header_noting-header.ensures
