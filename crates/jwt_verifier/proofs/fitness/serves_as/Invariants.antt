use Rattle.std.proofs.Common.{◌≡◌, None, take}
use Rattle.std.specs.List.{All}
use Rattle.jwt_standard.specs.StandardKeys.{verifier_refusal}
use Rattle.jsonwebtoken.specs.Tests.{AgreesWith}
use Rattle.jwt_verifier.proofs.fitness.serves_as.Given as goal

abbrev pub invariant-loop-algorithm : goal.invariant-loop-algorithm
invariant-loop-algorithm l = All (λ a. ¬ (AgreesWith a l.jwk × (verifier_refusal a l.key ≡ None))) (take l.algorithm-index l.algorithms)
