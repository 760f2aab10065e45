-- Claims that agree on what the options ask about are missing alike, and meet and break the same rules.
use Rattle.std.proofs.Common.{◌≡◌, ℕ, Bool, true, false, Option, Some, None, inl, inr, refl, ap, sym, ◌∙◌}
use Rattle.std.specs.Prelude.{◌↔◌, IsTrue, IsSome, IfSome}
use Rattle.jwt_validation.specs.Claim.{Claims}
use Rattle.jwt_validation.specs.ClaimRules.{text, Holds, HasValue, IsMissing, IsFirstBroken, kind_of_rule, format_or}
use Rattle.jwt_validation.specs.Options.{Options}
use Rattle.jwt_validation.specs.private_clauses.ClaimsSeen.{AreAlike, Lacks}
use Rattle.jwt_base.specs.Kind as kind
use Rattle.jwt_validation.specs.declared.claims.Name.{Name}
use Rattle.jwt_validation.specs.declared.claims.Name.TheVariants.{Exp, Nbf, Aud, Iss, Sub}
use Rattle.jwt_validation.specs.declared.rules.Rule.{Rule}
use Rattle.jwt_validation.specs.declared.rules.Rule.TheVariants.{ExpFormat, NbfFormat, ExpReject, ExpTime, NbfTime}
use Rattle.jwt_validation.specs.declared.rules.Rule.TheVariants.{Subject, Issuer, Audience}

if_some : {S : Type 0} (o : Option S) (P Q : S → Type 0) → (IsSome o → (s : S) → P s → Q s) → IfSome o P → IfSome o Q
if_some None P Q f p = tt
if_some (Some s) P Q f p = f refl s p

is_some_of : {S : Type 0} (o : Option S) (P : S → Type 0) → (IfSome o P → ⊥) → IsSome o
is_some_of None P n = absurd (n tt)
is_some_of (Some s) P n = refl

is_true_of : (b : Bool) (P : Type 0) → ((IsTrue b → P) → ⊥) → IsTrue b
is_true_of true P n = refl
is_true_of false P n = absurd (n (λ t. absurd (cc)))

module _ (v : Options) (r : Name → Bool) (same : (n : Name) → r n ≡ v.required (text n)) (c e : Claims) (a : AreAlike v r c e) where
  seen_alike : (n : Name) → IsTrue (r n) → HasValue c n ↔ HasValue e n
  seen_alike Exp t = (λ h. rw (← a.exp (inr t)) h, λ h. rw (a.exp (inr t)) h)
  seen_alike Nbf t = (λ h. rw (← a.nbf (inr t)) h, λ h. rw (a.nbf (inr t)) h)
  seen_alike Aud t = (λ h. rw (← a.aud (inr t)) h, λ h. rw (a.aud (inr t)) h)
  seen_alike Iss t = (λ h. rw (← a.iss (inr t)) h, λ h. rw (a.iss (inr t)) h)
  seen_alike Sub t = (λ h. rw (← a.sub (inr t)) h, λ h. rw (a.sub (inr t)) h)

  pub missing_alike : (n : Name) → Lacks r c n ↔ IsMissing v e n
  missing_alike n = (
    λ m. (sym (same n) ∙ m.0, λ h. m.1 ((seen_alike n m.0).1 h)),
    λ m. (same n ∙ m.0, λ h. m.1 ((seen_alike n (same n ∙ m.0)).0 h)),
  )

  pub holds_alike : (time : ℕ) (r : Rule) → Holds v c time r ↔ Holds v e time r
  holds_alike time ExpFormat = (λ h t. rw (← a.exp (inl t)) (h t), λ h t. rw (a.exp (inl t)) (h t))
  holds_alike time NbfFormat = (λ h t. rw (← a.nbf (inl t)) (h t), λ h t. rw (a.nbf (inl t)) (h t))
  holds_alike time ExpReject = (λ h t. rw (← a.exp (inl t)) (h t), λ h t. rw (a.exp (inl t)) (h t))
  holds_alike time ExpTime = (λ h t. rw (← a.exp (inl t)) (h t), λ h t. rw (a.exp (inl t)) (h t))
  holds_alike time NbfTime = (λ h t. rw (← a.nbf (inl t)) (h t), λ h t. rw (a.nbf (inl t)) (h t))
  holds_alike time Subject = (
    if_some v.sub _ _ (λ i s h. rw (← a.sub (inl i)) h),
    if_some v.sub _ _ (λ i s h. rw (a.sub (inl i)) h),
  )
  holds_alike time Issuer = (
    if_some v.iss _ _ (λ i s h. rw (← a.iss (inl i)) h),
    if_some v.iss _ _ (λ i s h. rw (a.iss (inl i)) h),
  )
  holds_alike time Audience = (λ h t. rw (← a.aud (inl t)) (h t), λ h t. rw (a.aud (inl t)) (h t))

  pub kind_alike : (time : ℕ) (r : Rule) → ¬ Holds v c time r → kind_of_rule c r ≡ kind_of_rule e r
  kind_alike time ExpFormat n = refl
  kind_alike time NbfFormat n = refl
  kind_alike time ExpReject n = refl
  kind_alike time ExpTime n = refl
  kind_alike time NbfTime n = refl
  kind_alike time Subject n = ap (λ x. format_or x Sub kind.InvalidSubject) (a.sub (inl (is_some_of v.sub _ n)))
  kind_alike time Issuer n = ap (λ x. format_or x Iss kind.InvalidIssuer) (a.iss (inl (is_some_of v.iss _ n)))
  kind_alike time Audience n = ap (λ x. format_or x Aud kind.InvalidAudience) (a.aud (inl (is_true_of v.checks_aud _ n)))

  pub broken_alike : (time : ℕ) (r : Rule) → IsFirstBroken v c time r → IsFirstBroken v e time r
  broken_alike time r b = record {
    fails = λ h. b.fails ((holds_alike time r).1 h);
    before = λ q less. (holds_alike time q).0 (b.before q less);
  }
