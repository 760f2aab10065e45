-- The places of the names and the rules in the lists that the code goes through.
use Rattle.std.proofs.Common.{ℕ}
use Rattle.jwt_validation.specs.declared.claims.Name.{Name}
use Rattle.jwt_validation.specs.declared.claims.Name.TheVariants.{Exp, Nbf, Aud, Iss, Sub}

abbrev pub name_place : Name → ℕ
name_place Exp = 1
name_place Nbf = 2
name_place Aud = 3
name_place Iss = 4
name_place Sub = 5
