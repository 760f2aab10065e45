use Rattle.std.proofs.Common.{◌≤◌}
use Rattle.jwt_validation.proofs.NamePlaces.{name_place}
use Rattle.jwt_validation.specs.private_clauses.ClaimsSeen.{claims_seen, requires_claim, Lacks}
use Rattle.jwt_validation.specs.declared.claims.Name.{Name}
use Rattle.jwt_validation.proofs.check.first_missing.Given as goal

abbrev pub invariant-loop-name : goal.invariant-loop-name
invariant-loop-name l = (n : Name) → name_place n ≤ l.name-index → ¬ Lacks (requires_claim l.required) (claims_seen l.claims) n
