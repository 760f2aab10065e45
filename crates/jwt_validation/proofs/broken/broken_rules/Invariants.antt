use Rattle.jwt_validation.specs.OptionsOf.{options_of}
use Rattle.jwt_validation.specs.ClaimRules.{Holds, place}
use Rattle.jwt_validation.specs.private_clauses.ClaimsSeen.{claims_seen}
use Rattle.jwt_validation.proofs.Listed.{IsListed}
use Rattle.jwt_validation.proofs.broken.broken_rules.Given as goal

abbrev pub invariant-loop-rule : goal.invariant-loop-rule
invariant-loop-rule l =
    IsListed place (λ r. ¬ Holds (options_of l.options) (claims_seen l.claims) l.time r) l.rule-index l.broken.items
