use Rattle.std.proofs.Common.{refl}
use Rattle.jwt_c_calls.proofs.AlgorithmNames.{none_named}
use Rattle.jwt_c_calls.proofs.texts.number_of_name.Goals as goal

pub returns-in_default : goal.returns-in_default
returns-in_default c = let none = none_named c.args.name.now c.in_default.ensures.cases.0 in rw none refl
