-- The claim rules.
use Rattle.std.specs.Prelude.{◌≡◌, ◌⊎◌, ℕ, ◌+◌, ◌<◌, ◌≤◌, List, IsTrue, IsSome, IfSome, Any, ⊤, codes}
use Rattle.serde_json.specs.Data.{Data}
use Rattle.serde_json.specs.Find.{as_object}
use Rattle.jwt_base.specs.Kind.{Kind}
use Rattle.jwt_base.specs.Kind as kind
use Rattle.jwt_base.specs.KindOf.{kind_of, IsMemory}
use Rattle.jwt_base.specs.declared.errors.Error.{Error}
use Rattle.jwt_validation.specs.Options.{Options, Texts, audience}
use Rattle.jwt_validation.specs.Claim.{Claims, claims_of, IsWellFormed, IsPresent, IfValue}
use Rattle.jwt_validation.specs.declared.claims.Name.{Name}
use Rattle.jwt_validation.specs.declared.claims.Name.TheVariants.{Exp, Nbf, Aud, Iss, Sub}
use Rattle.jwt_validation.specs.declared.claims.Claim.{Claim}
use Rattle.jwt_validation.specs.declared.claims.Claim.TheVariants.{Absent, Malformed, Value}
use Rattle.jwt_validation.specs.declared.rules.Rule.{Rule}
use Rattle.jwt_validation.specs.declared.rules.Rule.TheVariants.{ExpFormat, NbfFormat, ExpReject, ExpTime, NbfTime}
use Rattle.jwt_validation.specs.declared.rules.Rule.TheVariants.{Subject, Issuer, Audience}

-- ---- the required claims

-- the names of the claims (RFC 7519 sections 4.1.1 to 4.1.5)
abbrev pub text : Name → List ℕ
text Exp = codes "exp"
text Nbf = codes "nbf"
text Aud = codes "aud"
text Iss = codes "iss"
text Sub = codes "sub"

-- the claim of this name is present, and it is not malformed
abbrev pub HasValue : Claims → Name → Type 0
HasValue c Exp = IsPresent c.exp
HasValue c Nbf = IsPresent c.nbf
HasValue c Aud = IsPresent c.aud
HasValue c Iss = IsPresent c.iss
HasValue c Sub = IsPresent c.sub

-- the claim is required, and is absent or malformed (RFC 7519 section 4.1)
abbrev pub IsMissing : Options → Claims → Name → Type 0
IsMissing v c n = IsTrue (v.required (text n)) × ¬ HasValue c n

-- ---- the rules, in the order of the tests

abbrev pub place : Rule → ℕ
place ExpFormat = 1
place NbfFormat = 2
place ExpReject = 3
place ExpTime = 4
place NbfTime = 5
place Subject = 6
place Issuer = 7
place Audience = 8

-- one of the strings is in the set (RFC 7519 section 4.1.3)
abbrev pub SharesMember : Texts → List (List ℕ) → Type 0
SharesMember set = Any (λ t. IsTrue (set t))

-- The condition of each rule (RFC 7519): `ExpFormat` and `ExpTime` by section 4.1.4, `NbfFormat`
-- and `NbfTime` by 4.1.5, `Subject` by 4.1.2, `Issuer` by 4.1.1, `Audience` by 4.1.3; `ExpReject`
-- is a rule of this library. A token is accepted at `exp` itself, or at `exp` with leeway.
abbrev pub Holds : Options → Claims → ℕ → Rule → Type 0
Holds v c time ExpFormat = IsTrue v.checks_exp → IsWellFormed c.exp
Holds v c time NbfFormat = IsTrue v.checks_nbf → IsWellFormed c.nbf
Holds v c time ExpReject = IsTrue v.checks_exp → IfValue c.exp (λ t. v.reject ≤ t)
Holds v c time ExpTime = IsTrue v.checks_exp → IfValue c.exp (λ t. time + v.reject ≤ t + v.leeway)
Holds v c time NbfTime = IsTrue v.checks_nbf → IfValue c.nbf (λ t. t ≤ time + v.leeway)
Holds v c time Subject = IfSome v.sub (λ s. IsWellFormed c.sub × IfValue c.sub (λ t. t ≡ s))
Holds v c time Issuer = IfSome v.iss (λ set. IsWellFormed c.iss × IfValue c.iss (SharesMember set))
Holds v c time Audience =
    IsTrue v.checks_aud → IsWellFormed c.aud × IfValue c.aud (SharesMember (audience v))

-- a malformed claim has the kind for that
abbrev pub format_or : {A : Type 0} → Claim A → Name → Kind → Kind
format_or Absent n k = k
format_or Malformed n k = kind.InvalidClaimFormat (text n)
format_or (Value a) n k = k

-- the kind of a broken rule
abbrev pub kind_of_rule : Claims → Rule → Kind
kind_of_rule c ExpFormat = kind.InvalidClaimFormat (text Exp)
kind_of_rule c NbfFormat = kind.InvalidClaimFormat (text Nbf)
kind_of_rule c ExpReject = kind.InvalidToken
kind_of_rule c ExpTime = kind.ExpiredSignature
kind_of_rule c NbfTime = kind.ImmatureSignature
kind_of_rule c Subject = format_or c.sub Sub kind.InvalidSubject
kind_of_rule c Issuer = format_or c.iss Iss kind.InvalidIssuer
kind_of_rule c Audience = format_or c.aud Aud kind.InvalidAudience

-- the rule fails, and each one before it holds
pub record IsFirstBroken (v : Options) (c : Claims) (time : ℕ) (r : Rule) : Type 0 where
  pub fails : ¬ Holds v c time r
  pub before : (q : Rule) → place q < place r → Holds v c time q

-- ---- accepted claims, and the kinds of a refusal

-- no required claim is missing, and each rule holds (RFC 7519 section 4.1)
pub record RulesHold (v : Options) (d : Data) (time : ℕ) : Type 0 where
  pub required : (n : Name) → ¬ IsMissing v (claims_of d) n
  pub rules : (r : Rule) → Holds v (claims_of d) time r

-- the kind of any missing claim; if none is missing, that of the first broken rule
pub data IsRuleFault (v : Options) (d : Data) (time : ℕ) : Kind → Type 0 where
  missing : (n : Name) → IsMissing v (claims_of d) n
      → IsRuleFault v d time (kind.MissingRequiredClaim (text n))
  broken : ((n : Name) → ¬ IsMissing v (claims_of d) n)
      → (r : Rule) → IsFirstBroken v (claims_of d) time r
      → IsRuleFault v d time (kind_of_rule (claims_of d) r)

-- `Json` of a value that is not an object (RFC 7519 section 7.2), else the kind that the rules give
abbrev pub IsFault : Options → Data → ℕ → Kind → Type 0
IsFault v d time k =
    ((¬ IsSome (as_object d)) × (k ≡ kind.Json))
    ⊎ (IsSome (as_object d) × IsRuleFault v d time k)

-- the kinds that hold the name of a claim
abbrev pub NamesClaim : Kind → Type 0
NamesClaim (kind.MissingRequiredClaim claim) = ⊤
NamesClaim (kind.InvalidClaimFormat claim) = ⊤
NamesClaim _ = ⊥

-- the error is of the kind, or memory ran out for the name that the kind holds
abbrev pub IsErrorFor : Error → Kind → Type 0
IsErrorFor e k = (kind_of e ≡ k) ⊎ (IsMemory e × NamesClaim k)
