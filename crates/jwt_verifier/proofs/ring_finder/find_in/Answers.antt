use Rattle.std.proofs.Common.{refl}
use Rattle.jsonwebtoken.specs.private_clauses.Steps.{no_contents}
use Rattle.jwt_verifier.proofs.ring_finder.find_in.Goals as goal

pub returns-in-One-clause-found : goal.returns-in-One-clause-found
returns-in-One-clause-found c = rw c.in-One.is (no_contents, tt, refl)
