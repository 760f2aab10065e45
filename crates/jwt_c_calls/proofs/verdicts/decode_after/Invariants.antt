use Rattle.std.proofs.Common.{◌∷◌, List, take}
use Rattle.jwt_c_calls.specs.Acceptors.{accepting_all}
use Rattle.jwt_c_calls.specs.Verdicts.{IsToldOf, RefuseAll}
use Rattle.jwt_c_calls.specs.declared.verdicts.TokenRefusal.{TokenRefusal}
use Rattle.jwt_c_calls.proofs.verdicts.decode_after.Given as goal

abbrev pub invariant-loop-at : goal.invariant-loop-at
invariant-loop-at l = (whys : List TokenRefusal) × RefuseAll l.token l.time 1 (accepting_all (take l.at l.others)) whys
    × IsToldOf (l.fn.first ∷ whys) l.latest
