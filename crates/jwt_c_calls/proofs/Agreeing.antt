-- The algorithms that agree with the `alg` of a key.
use Rattle.std.proofs.Common.{◌≡◌, ◌⊎◌, ⊎_elim, refl, subst, sym, inl, inr, arith, ℕ, zero, suc, ◌<◌, ◌+◌, List, [], ◌∷◌, ◌++◌}
use Rattle.std.proofs.Common.{Contains, None, get_or, length, take}
use Rattle.std.specs.List.{Any}
use Rattle.std.proofs.lemmas.List.{take_more}
use Rattle.std.proofs.lemmas.List.Elements.{Contains-append_cases, Contains-append_left, Contains-append_right}
use Rattle.jwt_base.specs.declared.algorithms.Algorithm.{Algorithm}
use Rattle.jwt_keys.proofs.OneKey.{one_key}
use Rattle.jwt_keys.specs.Key.{Key}
use Rattle.jwt_keys.specs.KeyOfJwk.{IsKeyOf}
use Rattle.jwt_keys.specs.declared.jwk.Jwk.{Jwk}
use Rattle.jwt_standard.specs.StandardKeys.{verifier_refusal}
use Rattle.jsonwebtoken.specs.Tests.{AgreesWith}
use Rattle.jwt_verifier.specs.Fitness.{Serves, ServesAs}
use Rattle.jwt_c_calls.specs.Verifiers.{HasAgreeing, KeyServes}

one_only : (x a : Algorithm) → Contains (x ∷ []) a → x ≡ a
one_only x a (zero, low, is) = is
one_only x a (suc k, low, is) = absurd (omega (arith, low))

module _ (jwk : Jwk) (xs left : List Algorithm) (before : HasAgreeing jwk xs left) (x : Algorithm) where
  one_more : AgreesWith x jwk → HasAgreeing jwk (xs ++ x ∷ []) (left ++ x ∷ [])
  one_more agrees a = (
    λ h. ⊎_elim
        (λ old. let was = (before a).0 old in (Contains-append_left xs (x ∷ []) a was.0, was.1))
        (λ new. (Contains-append_right xs (x ∷ []) a new, subst (λ (b : Algorithm). AgreesWith b jwk) (one_only x a new) agrees))
        (Contains-append_cases left (x ∷ []) a h),
    λ h. ⊎_elim
        (λ old. Contains-append_left left (x ∷ []) a ((before a).1 (old, h.1)))
        (λ new. Contains-append_right left (x ∷ []) a new)
        (Contains-append_cases xs (x ∷ []) a h.0),
  )

  one_less : ¬ AgreesWith x jwk → HasAgreeing jwk (xs ++ x ∷ []) left
  one_less differs a = (
    λ h. let was = (before a).0 h in (Contains-append_left xs (x ∷ []) a was.0, was.1),
    λ h. ⊎_elim
        (λ old. (before a).1 (old, h.1))
        (λ new. absurd (differs (subst (λ (b : Algorithm). AgreesWith b jwk) (sym (one_only x a new)) h.1)))
        (Contains-append_cases xs (x ∷ []) a h.0),
  )

module _ (jwk : Jwk) (xs : List Algorithm) (i : ℕ) (d : Algorithm) (lt : i < length xs) (left : List Algorithm)
    (before : HasAgreeing jwk (take i xs) left) where
  -- one more algorithm that agrees, or does not
  pub agreeing : AgreesWith (get_or xs i d) jwk → HasAgreeing jwk (take (i + 1) xs) (left ++ get_or xs i d ∷ [])
  agreeing agrees = subst (λ (l : List Algorithm). HasAgreeing jwk l (left ++ get_or xs i d ∷ [])) (sym (take_more xs i d lt))
      (one_more jwk (take i xs) left before (get_or xs i d) agrees)

  pub differing : ¬ AgreesWith (get_or xs i d) jwk → HasAgreeing jwk (take (i + 1) xs) left
  differing differs = subst (λ (l : List Algorithm). HasAgreeing jwk l left) (sym (take_more xs i d lt))
      (one_less jwk (take i xs) left before (get_or xs i d) differs)

-- ---- whether a key serves them

module _ (jwk : Jwk) (xs left : List Algorithm) (has : HasAgreeing jwk xs left) (key : Key) (is : IsKeyOf jwk.algorithm key) where
  pub serves : Serves left key → KeyServes xs jwk
  serves (k, a, low, at, served) =
      let c = (has a).0 (k, low, at) in (key, is, (c.0.0, a, c.0.1, c.0.2, (c.1, served)))

  back : ServesAs xs jwk key → Serves left key
  back (k, a, low, at, served) = let c = (has a).1 ((k, low, at), served.0) in (c.0, a, c.1, c.2, served.1)

  pub serves_not : ¬ Serves left key → ¬ KeyServes xs jwk
  serves_not differs h = differs (back (subst (ServesAs xs jwk) (one_key jwk.algorithm _ _ h.1 is) h.2))
