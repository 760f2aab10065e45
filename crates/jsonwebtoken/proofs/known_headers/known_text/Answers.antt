use Rattle.jsonwebtoken.proofs.KnownParts.{usual_hs256, usual_rs256, usual_es256, usual_eddsa}
use Rattle.jsonwebtoken.proofs.known_headers.known_text.Goals as goal

pub returns-in-HS256 : goal.returns-in-HS256
returns-in-HS256 c = rw c.in-HS256.is usual_hs256

pub returns-in-RS256 : goal.returns-in-RS256
returns-in-RS256 c = rw c.in-RS256.is usual_rs256

pub returns-in-ES256 : goal.returns-in-ES256
returns-in-ES256 c = rw c.in-ES256.is usual_es256

pub returns-in-EdDSA : goal.returns-in-EdDSA
returns-in-EdDSA c = rw c.in-EdDSA.is usual_eddsa
