-- The rules in the order in which the code goes through them.
use Rattle.std.proofs.Common.{◌≡◌, ℕ, zero, suc, ◌+◌, ◌-◌, ◌<◌, get_or, arith, refl, ap, ◌∙◌}
use Rattle.jwt_validation.specs.ClaimRules.{place}
use Rattle.jwt_validation.specs.declared.rules.TheConstants.{RULES}
use Rattle.jwt_validation.specs.declared.rules.Rule.{Rule}
use Rattle.jwt_validation.specs.declared.rules.Rule.TheVariants.{ExpFormat, NbfFormat, ExpReject, ExpTime, NbfTime}
use Rattle.jwt_validation.specs.declared.rules.Rule.TheVariants.{Subject, Issuer, Audience}

abbrev pub rule_at : ℕ → Rule
rule_at n = get_or RULES n ExpFormat

pub place-rule_at : (n : ℕ) → n < 8 → place (rule_at n) ≡ n + 1
place-rule_at zero h = refl
place-rule_at (suc zero) h = refl
place-rule_at (suc (suc zero)) h = refl
place-rule_at (suc (suc (suc zero))) h = refl
place-rule_at (suc (suc (suc (suc zero)))) h = refl
place-rule_at (suc (suc (suc (suc (suc zero))))) h = refl
place-rule_at (suc (suc (suc (suc (suc (suc zero)))))) h = refl
place-rule_at (suc (suc (suc (suc (suc (suc (suc zero))))))) h = refl
place-rule_at (suc (suc (suc (suc (suc (suc (suc (suc n)))))))) h = absurd (omega arith)

rule_at-place : (r : Rule) → rule_at (place r - 1) ≡ r
rule_at-place ExpFormat = refl
rule_at-place NbfFormat = refl
rule_at-place ExpReject = refl
rule_at-place ExpTime = refl
rule_at-place NbfTime = refl
rule_at-place Subject = refl
rule_at-place Issuer = refl
rule_at-place Audience = refl

pub only_rule_at : (n : ℕ) (r : Rule) → place r ≡ n + 1 → rule_at n ≡ r
only_rule_at n r h = let e : n ≡ place r - 1 = omega arith in ap rule_at e ∙ rule_at-place r
