-- For private clauses: the meaning of the borrowed claims.
use Rattle.std.specs.Prelude.{◌≡◌, ◌⊎◌, ℕ, Bool, List, IsTrue, IsSome}
use Rattle.std.specs.List.{filter_map}
use Rattle.serde_json.specs.Find.{as_str}
use Rattle.serde_json.specs.View.{view}
use Rattle.serde_json.specs.declared.value.Value.{Value}
use Rattle.jwt_validation.specs.Claim.{Claims}
use Rattle.jwt_validation.specs.ClaimRules.{HasValue}
use Rattle.jwt_validation.specs.Options.{Options}
use Rattle.jwt_validation.specs.declared.claims.Name.TheVariants.{Exp, Nbf, Aud, Iss, Sub}
use Rattle.jwt_validation.specs.declared.claims.Name.{Name}
use Rattle.jwt_validation.specs.declared.claims.Claim.{Claim}
use Rattle.jwt_validation.specs.declared.claims.Claim.TheVariants as claim
use Rattle.jwt_validation.specs.declared.claims.RequiredClaims.{RequiredClaims}
use Rattle.jwt_validation.specs.declared.claims.SpecClaims.{SpecClaims}

-- a claim, with its value under f
abbrev pub seen : {A B : Type 0} → (A → B) → Claim A → Claim B
seen f claim.Absent = claim.Absent
seen f claim.Malformed = claim.Malformed
seen f (claim.Value a) = claim.Value (f a)

-- the strings of a list of values
abbrev pub texts_among : List Value → List (List ℕ)
texts_among = filter_map (λ v. as_str (view v))

-- the two agree on each claim that the options ask about or that is required
pub record AreAlike (v : Options) (required : Name → Bool) (c e : Claims) : Type 0 where
  pub exp : IsTrue v.checks_exp ⊎ IsTrue (required Exp) → c.exp ≡ e.exp
  pub nbf : IsTrue v.checks_nbf ⊎ IsTrue (required Nbf) → c.nbf ≡ e.nbf
  pub sub : IsSome v.sub ⊎ IsTrue (required Sub) → c.sub ≡ e.sub
  pub iss : IsSome v.iss ⊎ IsTrue (required Iss) → c.iss ≡ e.iss
  pub aud : IsTrue v.checks_aud ⊎ IsTrue (required Aud) → c.aud ≡ e.aud

-- whether the claim of this name is required
abbrev pub requires_claim : RequiredClaims → Name → Bool
requires_claim r Exp = r.exp
requires_claim r Nbf = r.nbf
requires_claim r Aud = r.aud
requires_claim r Iss = r.iss
requires_claim r Sub = r.sub

-- the claim is among the required ones, and is absent or malformed
abbrev pub Lacks : (Name → Bool) → Claims → Name → Type 0
Lacks required c n = IsTrue (required n) × ¬ HasValue c n

abbrev pub claims_seen : SpecClaims → Claims
claims_seen c = record {
  exp = c.exp;
  nbf = c.nbf;
  sub = seen (λ s. s.now) c.sub;
  iss = seen (λ vs. texts_among vs.now) c.iss;
  aud = seen (λ vs. texts_among vs.now) c.aud;
}
