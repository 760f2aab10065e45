use Rattle.std.proofs.Common.{take}
use Rattle.std.specs.List.{All}
use Rattle.jwt_verifier.specs.Fitness.{JwkServes}
use Rattle.jwt_verifier.proofs.fitness.set_serves.Given as goal

abbrev pub invariant-loop-jwk : goal.invariant-loop-jwk
invariant-loop-jwk l = All (λ jwk. ¬ JwkServes l.algorithms jwk) (take l.jwk-index l.set.keys.items)
