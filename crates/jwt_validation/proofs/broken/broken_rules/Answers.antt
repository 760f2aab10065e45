use Rattle.jwt_validation.specs.ClaimRules.{Holds, place}
use Rattle.jwt_validation.specs.OptionsOf.{options_of}
use Rattle.jwt_validation.specs.private_clauses.ClaimsSeen.{claims_seen}
use Rattle.jwt_validation.specs.declared.rules.Rule.{Rule}
use Rattle.std.proofs.Common.{rules, subst}
use Rattle.jwt_validation.proofs.Listed.{IsListed-skip, IsListed-push}
use Rattle.jwt_validation.proofs.RulePlaces.{rule_at, place-rule_at, only_rule_at}
use Rattle.jwt_validation.proofs.broken.broken_rules.Goals as goal
use Rattle.jwt_validation.proofs.broken.broken_rules.Goals.{then-not-holds+in_ok-push, else-not-holds}

pub loop-rule-preserved : goal.loop-rule-preserved
loop-rule-preserved c =
    let n = c.loop-rule.rule-index in
    let P : Rule → Type 0 = λ r. ¬ Holds (options_of c.args.options.now) (claims_seen c.read-claims.result) c.args.time r in
    elim c.if-not-holds.branch [
      | then-not-holds+in_ok-push w ↦
          let broken : P (rule_at n) = search rules in
          rw (w.broken-is, w.in_ok-push.ensures.items) (IsListed-push place P n c.loop-rule.broken.items (rule_at n)
          (place-rule_at n c.loop-rule-test.true) (only_rule_at n) broken c.loop-rule.invariant)
      | else-not-holds w ↦
          let kept : Holds (options_of c.args.options.now) (claims_seen c.read-claims.result) c.args.time (rule_at n) = search rules in
          rw w.broken-is (IsListed-skip place P n c.loop-rule.broken.items
          (λ r e. subst (λ q. P q → ⊥) (only_rule_at n r e) (λ not. not kept)) c.loop-rule.invariant)
    ]
