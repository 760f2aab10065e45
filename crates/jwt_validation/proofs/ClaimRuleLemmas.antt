-- Laws of accepted claims.
use Rattle.std.proofs.Common.{◌≡◌, ℕ, ◌+◌, ◌-◌, ◌≤◌, List, Bool, true, false, IsTrue, Some, None, Option, min, arith}
use Rattle.std.proofs.Common.{inl, inr, refl}
use Rattle.std.specs.Prelude.{IfSome, IsSomeAnd, ◌⊎◌}
use Rattle.serde_json.specs.Data.{Data}
use Rattle.jwt_validation.specs.Options.{Options, Texts, audience}
use Rattle.jwt_validation.specs.Claim.{Claims, claims_of, IsWellFormed, IfValue}
use Rattle.jwt_validation.specs.ClaimRules.{Holds, RulesHold, SharesMember, text}
use Rattle.jwt_validation.specs.Moments.{checked, end_of_time, RulesOfNoMoment, first_moment, last_moment, IsTimeless}
use Rattle.jwt_validation.specs.Moments.{IsSubset, Looser}
use Rattle.jwt_validation.specs.declared.claims.Claim.{Claim}
use Rattle.jwt_validation.specs.declared.claims.Claim.TheVariants.{Absent, Malformed, Value}
use Rattle.jwt_validation.specs.declared.rules.Rule.{Rule}
use Rattle.jwt_validation.specs.declared.rules.Rule.TheVariants.{ExpFormat, NbfFormat, ExpReject, ExpTime, NbfTime}
use Rattle.jwt_validation.specs.declared.rules.Rule.TheVariants.{Subject, Issuer, Audience}

-- ---- moments

nbf_from : (b : Bool) (c : Claim ℕ) (leeway time : ℕ) → (IsTrue b → IfValue c (λ t. t ≤ time + leeway))
    → checked b c (λ nbf. nbf - leeway) 0 ≤ time
nbf_from b Absent leeway time h = omega arith
nbf_from b Malformed leeway time h = omega arith
nbf_from true (Value t) leeway time h = let k = h refl in omega arith
nbf_from false (Value t) leeway time h = omega arith

from_nbf : (b : Bool) (c : Claim ℕ) (leeway time : ℕ) → checked b c (λ nbf. nbf - leeway) 0 ≤ time → IsTrue b
    → IfValue c (λ t. t ≤ time + leeway)
from_nbf b Absent leeway time h on = tt
from_nbf b Malformed leeway time h on = tt
from_nbf true (Value t) leeway time h on = omega arith
from_nbf false (Value t) leeway time h on = absurd (cc)

exp_until : (b : Bool) (c : Claim ℕ) (leeway reject time : ℕ) → time ≤ end_of_time
    → (IsTrue b → IfValue c (λ t. time + reject ≤ t + leeway))
    → time ≤ checked b c (λ t. min (t + leeway - reject) end_of_time) end_of_time
exp_until b Absent leeway reject time m h = m
exp_until b Malformed leeway reject time m h = m
exp_until true (Value t) leeway reject time m h = let k = h refl in omega arith
exp_until false (Value t) leeway reject time m h = m

until_exp : (b : Bool) (c : Claim ℕ) (leeway reject time : ℕ) → (IsTrue b → IfValue c (λ t. reject ≤ t))
    → time ≤ checked b c (λ t. min (t + leeway - reject) end_of_time) end_of_time → IsTrue b
    → IfValue c (λ t. time + reject ≤ t + leeway)
until_exp b Absent leeway reject time r h on = tt
until_exp b Malformed leeway reject time r h on = tt
until_exp true (Value t) leeway reject time r h on = let k = r refl in omega arith
until_exp false (Value t) leeway reject time r h on = absurd (cc)

-- a rule that does not speak of the moment
any_moment : (v : Options) (c : Claims) (r : Rule) → IsTimeless r → (m n : ℕ) → Holds v c m r → Holds v c n r
any_moment v c ExpFormat t m n h = h
any_moment v c NbfFormat t m n h = h
any_moment v c ExpReject t m n h = h
any_moment v c ExpTime t m n h = absurd t
any_moment v c NbfTime t m n h = absurd t
any_moment v c Subject t m n h = h
any_moment v c Issuer t m n h = h
any_moment v c Audience t m n h = h

pub within : (v : Options) (d : Data) (time : ℕ) → time ≤ end_of_time → RulesHold v d time
    → RulesOfNoMoment v d × (first_moment v (claims_of d) ≤ time) × (time ≤ last_moment v (claims_of d))
within v d time m a = (
  record { required = a.required; timeless = λ r t n. any_moment v (claims_of d) r t time n (a.rules r) },
  nbf_from v.checks_nbf (claims_of d).nbf v.leeway time (a.rules NbfTime),
  exp_until v.checks_exp (claims_of d).exp v.leeway v.reject time m (a.rules ExpTime),
)

rules_within : (v : Options) (d : Data) (time : ℕ) → RulesOfNoMoment v d → first_moment v (claims_of d) ≤ time
    → time ≤ last_moment v (claims_of d) → (r : Rule) → Holds v (claims_of d) time r
rules_within v d time w lo hi ExpFormat = w.timeless ExpFormat tt time
rules_within v d time w lo hi NbfFormat = w.timeless NbfFormat tt time
rules_within v d time w lo hi ExpReject = w.timeless ExpReject tt time
rules_within v d time w lo hi ExpTime = until_exp v.checks_exp (claims_of d).exp v.leeway v.reject time
    (w.timeless ExpReject tt time) hi
rules_within v d time w lo hi NbfTime = from_nbf v.checks_nbf (claims_of d).nbf v.leeway time lo
rules_within v d time w lo hi Subject = w.timeless Subject tt time
rules_within v d time w lo hi Issuer = w.timeless Issuer tt time
rules_within v d time w lo hi Audience = w.timeless Audience tt time

pub held_within : (v : Options) (d : Data) (time : ℕ) → RulesOfNoMoment v d → first_moment v (claims_of d) ≤ time
    → time ≤ last_moment v (claims_of d) → RulesHold v d time
held_within v d time w lo hi = record { required = w.required; rules = rules_within v d time w lo hi }

-- ---- loosening

IfValue-weaker : {A : Type 0} (c : Claim A) (P Q : A → Type 0) → ((a : A) → P a → Q a) → IfValue c P → IfValue c Q
IfValue-weaker Absent P Q f h = tt
IfValue-weaker Malformed P Q f h = tt
IfValue-weaker (Value a) P Q f h = f a h

shares_more : (s t : Texts) → IsSubset s t → (ts : List (List ℕ)) → SharesMember s ts → SharesMember t ts
shares_more s t sub ts h = (h.0, h.1, h.2, h.3, sub h.1 h.4)

same_subject : (s t : Option (List ℕ)) (c : Claim (List ℕ)) → (t ≡ None) ⊎ (t ≡ s)
    → IfSome s (λ x. IsWellFormed c × IfValue c (λ y. y ≡ x)) → IfSome t (λ x. IsWellFormed c × IfValue c (λ y. y ≡ x))
same_subject s t c (inl e) h = rw e tt
same_subject s t c (inr e) h = rw e h

more_issuers : (s t : Option Texts) (c : Claim (List (List ℕ))) → IfSome t (λ y. IsSomeAnd s (λ x. IsSubset x y))
    → IfSome s (λ x. IsWellFormed c × IfValue c (SharesMember x)) → IfSome t (λ y. IsWellFormed c × IfValue c (SharesMember y))
more_issuers s None c l h = tt
more_issuers None (Some y) c l h = absurd l
more_issuers (Some x) (Some y) c l h = (h.0, IfValue-weaker c (SharesMember x) (SharesMember y) (shares_more x y l) h.1)

looser_rules : (v w : Options) (c : Claims) (time : ℕ) → Looser v w → (r : Rule) → Holds v c time r → Holds w c time r
looser_rules v w c time l ExpFormat h = λ on. h (l.checks_exp on)
looser_rules v w c time l NbfFormat h = λ on. h (l.checks_nbf on)
looser_rules v w c time l ExpReject h = λ on. IfValue-weaker c.exp _ _ (λ t k. omega (arith, l.reject)) (h (l.checks_exp on))
looser_rules v w c time l ExpTime h = λ on. IfValue-weaker c.exp _ _ (λ t k. omega (arith, l.reject, l.leeway))
    (h (l.checks_exp on))
looser_rules v w c time l NbfTime h = λ on. IfValue-weaker c.nbf _ _ (λ t k. omega (arith, l.leeway)) (h (l.checks_nbf on))
looser_rules v w c time l Subject h = same_subject v.sub w.sub c.sub l.sub h
looser_rules v w c time l Issuer h = more_issuers v.iss w.iss c.iss l.iss h
looser_rules v w c time l Audience h = λ on. let k = h (l.checks_aud on) in
    (k.0, IfValue-weaker c.aud _ _ (shares_more (audience v) (audience w) l.aud) k.1)

pub rules-looser : (v w : Options) (d : Data) (time : ℕ) → Looser v w → RulesHold v d time → RulesHold w d time
rules-looser v w d time l a = record {
  required = λ n m. a.required n (l.required (text n) m.0, m.1);
  rules = λ r. looser_rules v w (claims_of d) time l r (a.rules r);
}
