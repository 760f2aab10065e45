-- What one verifier says of a token.
use Rattle.std.proofs.Common.{◌≡◌, ◌≤◌, ◌<◌, ◌⊎◌, ap, ℕ, List, length, None, Option, Result, Ok, Err, IfOk, IfErr, inl, inr, refl, subst, sym}
use Rattle.serde_json.specs.View.{view}
use Rattle.serde_json.specs.declared.value.Value.{Value}
use Rattle.jwt_base.specs.KindOf.{kind_of, IsMemory}
use Rattle.jwt_base.specs.declared.algorithms.AlgorithmFamily.{AlgorithmFamily}
use Rattle.jwt_validation.specs.Moments.{end_of_time}
use Rattle.jsonwebtoken.specs.Calls.{Carries}
use Rattle.jsonwebtoken.specs.Family.{AreOfOneFamily, family_by}
use Rattle.jsonwebtoken.specs.Own.{HasHeaderOf}
use Rattle.jsonwebtoken.specs.Refused.{DecidesByTest, IsRefusal}
use Rattle.jsonwebtoken.specs.Tests.{Contents, token_tests}
use Rattle.jsonwebtoken.specs.declared.decoding.TokenData.{TokenData}
use Rattle.jsonwebtoken.specs.declared.refusal.Refusal.{Refusal}
use Rattle.jwt_verifier.specs.Verifying.{IsBounded, order_of, source_of}
use Rattle.jwt_verifier.specs.declared.verifier.VerifierRefusal.{VerifierRefusal}
use Rattle.jwt_verifier.specs.declared.verifier.VerifierRefusal.TheVariants.{Failed, TooLong}
use Rattle.jwt_c_calls.specs.Acceptors.{Accepting}
use Rattle.jwt_c_calls.specs.Status.{further_claim, further_status, token_too_long}
use Rattle.jwt_c_calls.specs.TestNumbers.{further_test}
use Rattle.jwt_c_calls.specs.Verdicts.{AcceptsToken, BreaksOf, IfRefused, IsReason, Refuses, RefusesToken, SaysOf, refusal_of, verifier_call}
use Rattle.jwt_c_calls.specs.declared.verdicts.Accepted.{Accepted}
use Rattle.jwt_c_calls.specs.declared.verdicts.TokenRefusal.{TokenRefusal}
use Rattle.jwt_c_calls.specs.declared.verdicts.Unaccepted.{Unaccepted}
use Rattle.jwt_c_calls.specs.declared.verdicts.Unaccepted.TheVariants.{Memory, Refused}
use Rattle.jwt_c_calls.proofs.Families.{for_family}
use Rattle.jwt_c_calls.proofs.Until.{accepts}

module _ (v : Accepting) (place : ℕ) (token : List ℕ) (time : ℕ) where
  -- the result of the verifier, with the algorithms of a family
  abbrev pub IsDecided : Option AlgorithmFamily → Result (TokenData Value) (VerifierRefusal Refusal) → Type 0
  IsDecided g r = IsBounded (DecidesByTest
      (token_tests (verifier_call g v.verifier.keys.keys v.verifier.validation token time)) (order_of v.verifier.keys.keys)
      (Carries (verifier_call g v.verifier.keys.keys v.verifier.validation token time)))
      v.verifier.limits.max_len (length token) r

  abbrev pub ByKey : Result (TokenData Value) (VerifierRefusal Refusal) → Type 0
  ByKey r = (g : Option AlgorithmFamily)
      → ((t : Contents) → HasHeaderOf token t → g ≡ family_by (source_of v.verifier.keys.keys) t.header) → IsDecided g r

  abbrev pub ByOne : Result (TokenData Value) (VerifierRefusal Refusal) → Type 0
  ByOne r = AreOfOneFamily v.verifier.validation.algorithms.items → IsDecided None r

  pub accepted : time ≤ end_of_time → (decoded : TokenData Value) → ByKey (Ok decoded) → ByOne (Ok decoded)
      → (r : Result Accepted Unaccepted) → IfOk r (SaysOf v place token time decoded.header (view decoded.claims))
      → IfOk r (λ a. AcceptsToken token time v a × (a.place ≡ place))
  accepted fits decoded by one (Ok a) says = (
    λ f is. let b = for_family v.verifier token f (λ g. IsDecided g (Ok decoded)) by one is in
        accepts f v token time fits place decoded.header decoded.claims a b.0 b.1.accepted says says.later,
    says.at,
  )
  accepted fits decoded by one (Err u) says = tt

  pub broken : (decoded : TokenData Value) → ByKey (Ok decoded) → ByOne (Ok decoded) → (r : Result Accepted Unaccepted)
      → IfErr r (IfRefused (BreaksOf v place time (view decoded.claims)))
      → IfErr r (IfRefused (λ why. RefusesToken token time v why × (why.place ≡ place)))
  broken decoded by one (Ok a) h = tt
  broken decoded by one (Err Memory) h = tt
  broken decoded by one (Err (Refused why)) h =
      let at : why.place ≡ place = ap (λ w. w.place) h.2 in (
        λ f is. let b = for_family v.verifier token f (λ g. IsDecided g (Ok decoded)) by one is in
            let t = b.1.accepted in inr (
              b.0,
              inr (record {
                contents = t.0;
                passes = t.1;
                rule = h.0;
                first = rw t.2.1 at h.1;
                said_so = subst (λ p. why ≡ refusal_of p (further_status h.0) further_test (further_claim h.0)) (sym at) h.2;
              }),
            ),
        at,
      )

  pub too_long : ByKey (Err TooLong) → ByOne (Err TooLong) → RefusesToken token time v (refusal_of place token_too_long 0 0)
  too_long by one f is = inl (for_family v.verifier token f (λ g. IsDecided g (Err TooLong)) by one is, refl)

  by_test : (f : Option AlgorithmFamily) (refusal : Refusal) (why : TokenRefusal) → length token ≤ v.verifier.limits.max_len
      → IsReason token place refusal (Refused why)
      → IsMemory refusal.error ⊎ IsRefusal (token_tests (verifier_call f v.verifier.keys.keys v.verifier.validation token time))
      (order_of v.verifier.keys.keys) refusal → Refuses f v token time why
  by_test f refusal why short h (inl m) = absurd (h.1 m)
  by_test f refusal why short h (inr r) = inr (
    short,
    inl (record {
      test = refusal.test;
      first = r.first;
      of_kind = kind_of refusal.error;
      kind = r.kind;
      status = h.2;
      number = h.3;
      claim = h.4;
      has_kid = h.5;
    }),
  )

  pub failed : (refusal : Refusal) → ByKey (Err (Failed refusal)) → ByOne (Err (Failed refusal)) → (u : Unaccepted)
      → IsReason token place refusal u → IfRefused (λ why. RefusesToken token time v why × (why.place ≡ place)) u
  failed refusal by one Memory h = tt
  failed refusal by one (Refused why) h = (
    λ f is. let b = for_family v.verifier token f (λ g. IsDecided g (Err (Failed refusal))) by one is in
        by_test f refusal why b.0 h b.1.refused,
    h.0,
  )
