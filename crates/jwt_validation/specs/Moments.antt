-- The times at which a value is accepted, and options that accept more.
use Rattle.std.specs.Prelude.{◌≡◌, ℕ, ◌+◌, ◌-◌, ◌≤◌, List, Bool, IsTrue, IsSome, IsSomeAnd, IfSome, None, Contains, min}
use Rattle.std.specs.Prelude.{if◌then◌else◌, ◌⊎◌, ⊤}
use Rattle.serde_json.specs.Data.{Data}
use Rattle.serde_json.specs.Find.{as_object}
use Rattle.jwt_base.specs.Algorithm.{family_of}
use Rattle.jwt_base.specs.declared.algorithms.Algorithm.{Algorithm}
use Rattle.jwt_validation.specs.Options.{Options, Texts, audience}
use Rattle.jwt_validation.specs.Claim.{Claims, claims_of}
use Rattle.jwt_validation.specs.ClaimRules.{IsMissing, Holds}
use Rattle.jwt_validation.specs.declared.claims.Name.{Name}
use Rattle.jwt_validation.specs.declared.claims.Claim.{Claim}
use Rattle.jwt_validation.specs.declared.claims.Claim.TheVariants.{Absent, Malformed, Value}
use Rattle.jwt_validation.specs.declared.rules.Rule.{Rule}
use Rattle.jwt_validation.specs.declared.rules.Rule.TheVariants.{ExpFormat, NbfFormat, ExpReject, ExpTime, NbfTime}
use Rattle.jwt_validation.specs.declared.rules.Rule.TheVariants.{Subject, Issuer, Audience}

-- the rules that do not speak of the time
abbrev pub IsTimeless : Rule → Type 0
IsTimeless ExpFormat = ⊤
IsTimeless NbfFormat = ⊤
IsTimeless ExpReject = ⊤
IsTimeless ExpTime = ⊥
IsTimeless NbfTime = ⊥
IsTimeless Subject = ⊤
IsTimeless Issuer = ⊤
IsTimeless Audience = ⊤

-- the last time that a u64 holds
abbrev pub end_of_time : ℕ
end_of_time = 18446744073709551615

-- a claim's value under f, if it is checked and there is one
abbrev pub checked : {A B : Type 0} → Bool → Claim A → (A → B) → B → B
checked b Absent f other = other
checked b Malformed f other = other
checked b (Value a) f other = if b then f a else other

-- `nbf` less the leeway, or 0 if that is negative (RFC 7519 section 4.1.5)
abbrev pub first_moment : Options → Claims → ℕ
first_moment v c = checked v.checks_nbf c.nbf (λ nbf. nbf - v.leeway) 0

-- `exp` and the leeway, less the time that must be left (RFC 7519 section 4.1.4)
abbrev pub last_moment : Options → Claims → ℕ
last_moment v c =
    checked v.checks_exp c.exp (λ exp. min (exp + v.leeway - v.reject) end_of_time) end_of_time

-- the conditions on the claims that do not depend on the time
pub record RulesOfNoMoment (v : Options) (d : Data) : Type 0 where
  pub required : (n : Name) → ¬ IsMissing v (claims_of d) n
  pub timeless : (r : Rule) → IsTimeless r → (time : ℕ) → Holds v (claims_of d) time r

-- an object that keeps these, at a time from the first to the last
-- (RFC 7519 sections 4.1.4 and 4.1.5)
pub record IsAcceptedWithin (v : Options) (d : Data) (time : ℕ) : Type 0 where
  pub is_object : IsSome (as_object d)
  pub rules : RulesOfNoMoment v d
  pub from : first_moment v (claims_of d) ≤ time
  pub until : time ≤ last_moment v (claims_of d)

-- each member of the one set is in the other
abbrev pub IsSubset : Texts → Texts → Type 0
IsSubset s t = (x : List ℕ) → IsTrue (s x) → IsTrue (t x)

-- w accepts what v does, and more
pub record Looser (v w : Options) : Type 0 where
  pub leeway : v.leeway ≤ w.leeway
  pub reject : w.reject ≤ v.reject
  pub required : IsSubset w.required v.required
  pub checks_exp : IsTrue w.checks_exp → IsTrue v.checks_exp
  pub checks_nbf : IsTrue w.checks_nbf → IsTrue v.checks_nbf
  pub checks_aud : IsTrue w.checks_aud → IsTrue v.checks_aud
  pub sub : (w.sub ≡ None) ⊎ (w.sub ≡ v.sub)
  pub iss : IfSome w.iss (λ t. IsSomeAnd v.iss (λ s. IsSubset s t))
  pub aud : IsSubset (audience v) (audience w)
  pub understood : IsSubset v.understood w.understood
  pub keeps : (a : Algorithm) → Contains v.algorithms a → Contains w.algorithms a
  pub families : (a : Algorithm) → Contains w.algorithms a
      → (b : Algorithm) × Contains v.algorithms b × (family_of b ≡ family_of a)
