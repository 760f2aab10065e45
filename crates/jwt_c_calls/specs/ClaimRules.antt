-- The result of the call for C that checks claims by the rules of options.
use Rattle.std.specs.Prelude.{◌≡◌, ℕ, List, [], Some, IsSome}
use Rattle.serde_json.specs.Data.{Data}
use Rattle.serde_json.specs.Find.{as_object}
use Rattle.jwt_base.specs.JsonText.{ReadsText}
use Rattle.jwt_further.specs.Further.{FurtherHolds, further_fault}
use Rattle.jwt_validation.specs.ClaimRules.{RulesHold, IsRuleFault}
use Rattle.jwt_c_calls.specs.Asked.{AskedOptions, ReadsAsked}
use Rattle.jwt_c_calls.specs.Calls.{Answer, AnswersByRules, IsErrorOfTwo}
use Rattle.jwt_c_calls.specs.Inputs.{ReadsClaimsText}
use Rattle.jwt_c_calls.specs.declared.inputs.Input.TheVariants as input

-- the claims meet the rules of the options, the further ones after the others (RFC 7519 section 4.1), else the kind that the
-- rules give, or the further rule that fails first; the options' text is read before that of the claims
abbrev pub AnswersRules : List ℕ → List ℕ → ℕ → Answer → Type 0
AnswersRules text claims time = AnswersByRules {E = AskedOptions × Data}
    (λ e. ReadsText ReadsAsked text e.0 × ReadsClaimsText claims e.1)
    (IsErrorOfTwo input.Options (ReadsText ReadsAsked text) input.Claims (ReadsClaimsText claims))
    (λ e bytes. RulesHold e.0.usual e.1 time × FurtherHolds e.0.further e.0.usual.leeway time e.1 × (bytes ≡ []))
    (λ e. IsRuleFault e.0.usual e.1 time)
    (λ e f. RulesHold e.0.usual e.1 time × (further_fault e.0.further e.0.usual.leeway time e.1 ≡ Some f))

-- for a private clause: the result for options and claims that were read
abbrev pub AnswersRulesOf : AskedOptions → Data → ℕ → Answer → Type 0
AnswersRulesOf asked claims time = AnswersByRules {E = Unit {0}} (λ _. IsSome (as_object claims)) (λ i. ⊥)
    (λ _ bytes. RulesHold asked.usual claims time × FurtherHolds asked.further asked.usual.leeway time claims × (bytes ≡ []))
    (λ _. IsRuleFault asked.usual claims time)
    (λ _ f. RulesHold asked.usual claims time × (further_fault asked.further asked.usual.leeway time claims ≡ Some f))
