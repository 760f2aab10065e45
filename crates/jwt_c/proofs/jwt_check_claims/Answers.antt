use Rattle.std.proofs.Common.{[], refl}
use Rattle.jwt_c_calls.specs.Calls.{Returns}
use Rattle.jwt_c.proofs.jwt_check_claims.Goals as goal

pub returns-in-Ok : goal.returns-in-Ok
returns-in-Ok c = (Returns [], c.in-Ok.ensures.ok, refl, refl)
