use Rattle.std.proofs.Common.{rules}
use Rattle.jwt_validation.specs.declared.claims.Name.TheVariants.{Exp, Nbf, Aud, Iss, Sub}
use Rattle.jwt_validation.proofs.claims.RequiredClaims.of.Goals as goal

pub returns-then-len-gt-FEW : goal.returns-then-len-gt-FEW
returns-then-len-gt-FEW c Exp = search rules
returns-then-len-gt-FEW c Nbf = search rules
returns-then-len-gt-FEW c Aud = search rules
returns-then-len-gt-FEW c Iss = search rules
returns-then-len-gt-FEW c Sub = search rules
