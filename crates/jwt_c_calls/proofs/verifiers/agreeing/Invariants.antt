use Rattle.std.proofs.Common.{take}
use Rattle.jwt_c_calls.specs.Verifiers.{HasAgreeing}
use Rattle.jwt_c_calls.proofs.verifiers.agreeing.Given as goal

abbrev pub invariant-loop-algorithm : goal.invariant-loop-algorithm
invariant-loop-algorithm l = HasAgreeing l.jwk (take l.algorithm-index l.algorithms) l.left.items
