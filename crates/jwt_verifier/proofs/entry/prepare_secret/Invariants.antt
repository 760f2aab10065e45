use Rattle.std.proofs.Common.{◌+◌, ◌≤◌}
use Rattle.jwt_base.specs.declared.algorithms.AlgorithmFamily.TheVariants as family
use Rattle.jwt_keys.specs.Key.{Plain}
use Rattle.jwt_verifier.specs.PreparedOf.{IsPreparedOf}
use Rattle.jwt_verifier.specs.PreparedSize.{prepared_size}
use Rattle.jwt_verifier.proofs.entry.prepare_secret.Given as goal

abbrev pub invariant-loop-algorithm : goal.invariant-loop-algorithm
invariant-loop-algorithm l = record {
  of : IsPreparedOf (Plain family.Hmac l.secret) l.prepared;
  room : prepared_size l.prepared + l.budget.left ≤ l.fn.budget.left;
}
