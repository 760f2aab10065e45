use Rattle.std.proofs.Common.{refl}
use Rattle.jwt_validation.proofs.from_json.settle.Goals as goal

pub returns-then-not-is_strict-clause-ok : goal.returns-then-not-is_strict-clause-ok
returns-then-not-is_strict-clause-ok c = rw c.if-not-is_strict.true refl
