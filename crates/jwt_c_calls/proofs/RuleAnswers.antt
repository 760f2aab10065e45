-- The answer of claims that are checked by the rules of options, once both are read.
use Rattle.std.proofs.Common.{ℕ, List, inl, inr}
use Rattle.serde_json.specs.Data.{Data}
use Rattle.jwt_base.specs.JsonText.{ReadsText}
use Rattle.jwt_c_calls.specs.Asked.{AskedOptions, ReadsAsked}
use Rattle.jwt_c_calls.specs.Calls.{Answer, Returns, Refuses, InputError, Breaks}
use Rattle.jwt_c_calls.specs.ClaimRules.{AnswersRules, AnswersRulesOf}
use Rattle.jwt_c_calls.specs.Inputs.{ReadsClaimsText}

pub of_read : (o : AskedOptions) (d : Data) (text claims : List ℕ) (time : ℕ) → ReadsText ReadsAsked text o → ReadsClaimsText claims d
    → (a : Answer) → AnswersRulesOf o d time a → AnswersRules text claims time a
of_read o d text claims time ro rd (Returns bytes) h = ((o, d), (ro, rd), h.2)
of_read o d text claims time ro rd (Refuses k) (inl m) = inl m
of_read o d text claims time ro rd (Refuses k) (inr h) = inr ((o, d), (ro, rd), h.2)
of_read o d text claims time ro rd (InputError i) h = absurd h
of_read o d text claims time ro rd (Breaks f) h = ((o, d), (ro, rd), h.2)
