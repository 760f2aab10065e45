use Rattle.std.proofs.Common.{◌≤◌}
use Rattle.jwt_validation.specs.OptionsOf.{options_of}
use Rattle.jwt_validation.specs.ClaimRules.{Holds, place}
use Rattle.jwt_validation.specs.private_clauses.ClaimsSeen.{claims_seen}
use Rattle.jwt_validation.specs.declared.rules.Rule.{Rule}
use Rattle.jwt_validation.proofs.check.first_broken.Given as goal

abbrev pub invariant-loop-rule : goal.invariant-loop-rule
invariant-loop-rule l = (q : Rule) → place q ≤ l.rule-index → Holds (options_of l.options) (claims_seen l.claims) l.time q
