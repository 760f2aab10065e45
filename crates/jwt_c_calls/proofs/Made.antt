-- A verifier that is made of keys and options.
use Rattle.std.proofs.Common.{◌≡◌, ◌≤◌, ap, refl, subst, sym, ℕ, List, Option, Some, None, Result, Ok, Err, IfOk, IfErr, inl, inr}
use Rattle.std.specs.Prelude.{MatchOption}
use Rattle.jwt_keys.specs.Key.{Key}
use Rattle.jwt_keys.specs.KeyOfJwk.{IsKeyOf}
use Rattle.jwt_keys.specs.declared.jwk.Jwk.{Jwk}
use Rattle.jwt_key_items.specs.KeyItems.{kept_of}
use Rattle.jwt_base.specs.JsonText.{ReadsText}
use Rattle.jwt_further.specs.Further.{rules_of}
use Rattle.jwt_validation.specs.OptionsOf.{options_of}
use Rattle.jwt_validation.specs.declared.validation.Validation.{Validation}
use Rattle.jsonwebtoken.specs.Own.{with_algorithms}
use Rattle.jwt_verifier.specs.Fitness.{CanServe}
use Rattle.jwt_verifier.specs.declared.keys.Keys.{Keys}
use Rattle.jwt_verifier.specs.declared.keys.Keys.TheVariants.{One}
use Rattle.jwt_verifier.specs.declared.limits.Limits.{Limits}
use Rattle.jwt_verifier.specs.declared.verifier.Verifier.{Verifier}
use Rattle.jwt_c_calls.specs.Acceptors.{made_value}
use Rattle.jwt_c_calls.specs.Asked.{ReadsAsked, asked_of}
use Rattle.jwt_c_calls.specs.KeyLists.{KeyList, lone_key}
use Rattle.jwt_c_calls.specs.declared.acceptors.Made.{Made}
use Rattle.jwt_c_calls.specs.declared.asked.Asked.{Asked}
use Rattle.jwt_c_calls.specs.Verifiers.{AreAgreeing, AreUsable, HasAgreeing, HasSet, IsOfKey, IsUnfit, IsUnmade, IsVerifierBy, IsVerifierOf}
use Rattle.jwt_c_calls.specs.Verifiers.{KeyServes, SetServes}
use Rattle.jwt_c_calls.proofs.Agreeing.{serves, serves_not}

-- what is so of a verifier that is made of these keys and options
abbrev pub IsMadeWith : Keys → Validation → Limits → Verifier → Type 0
IsMadeWith keys validation limits v = (v.keys.keys ≡ keys) × (v.validation ≡ validation) × (v.limits ≡ limits)
    × (v.keys.prepared ≤ limits.max_prepared) × CanServe validation.algorithms.items keys

-- ---- of one key, for the algorithms that agree with it

abbrev pub IsMadeOfKey : Jwk → Validation → Limits → Verifier → Type 0
IsMadeOfKey jwk given limits v = IsOfKey jwk v.keys.keys × AreAgreeing jwk (options_of given) (options_of v.validation)
    × (v.limits ≡ limits) × (v.keys.prepared ≤ limits.max_prepared) × KeyServes given.algorithms.items jwk

module _ (jwk : Jwk) (given used : Validation) (limits : Limits) (key : Key) (is : IsKeyOf jwk.algorithm key)
    (has : HasAgreeing jwk given.algorithms.items used.algorithms.items)
    (same : options_of used ≡ with_algorithms (options_of given) used.algorithms.items) where
  pub of_key : (r : Result Verifier ℕ) → IfOk r (IsMadeWith (One key) used limits) → IfOk r (IsMadeOfKey jwk given limits)
  of_key (Ok v) h = (
    subst (IsOfKey jwk) (sym h.0) is,
    subst (λ (w : Validation). AreAgreeing jwk (options_of given) (options_of w)) (sym h.1) (same, has),
    h.2,
    h.3,
    serves jwk given.algorithms.items used.algorithms.items has key is h.4,
  )
  of_key (Err s) h = tt

  pub not_of_key : (r : Result Verifier ℕ) → IfErr r (IsUnfit (CanServe used.algorithms.items (One key)))
      → IfErr r (IsUnfit (KeyServes given.algorithms.items jwk))
  not_of_key (Ok v) h = tt
  not_of_key (Err s) (inl m) = inl m
  not_of_key (Err s) (inr u) = inr (u.0, serves_not jwk given.algorithms.items used.algorithms.items has key is u.1)

-- ---- of the keys of a handle

abbrev pub IsMadeOfSet : List Jwk → Validation → Limits → Verifier → Type 0
IsMadeOfSet kept given limits v = HasSet kept v.keys.keys × (v.validation ≡ given) × (v.limits ≡ limits)
    × (v.keys.prepared ≤ limits.max_prepared) × SetServes given.algorithms.items kept

module _ (held : KeyList) (given : Validation) (limits : Limits) where
  -- one key that is not in a set
  pub lone_made : (jwk : Jwk) → lone_key held ≡ Some jwk → (r : Result Verifier ℕ) → IfOk r (IsMadeOfKey jwk given limits)
      → IfOk r (IsVerifierBy held (options_of given) limits)
  lone_made jwk e (Ok v) h = (h.2, h.3, rw e (h.0, h.1), rw e h.4)
  lone_made jwk e (Err s) h = tt

  pub lone_unmade : (jwk : Jwk) → lone_key held ≡ Some jwk → (r : Result Verifier ℕ)
      → IfErr r (IsUnfit (KeyServes given.algorithms.items jwk)) → IfErr r (IsUnfit (AreUsable held given.algorithms.items))
  lone_unmade jwk e (Ok v) h = tt
  lone_unmade jwk e (Err s) h = rw e h

  -- a set
  pub set_made : lone_key held ≡ None → (r : Result Verifier ℕ) → IfOk r (IsMadeOfSet (kept_of held.items) given limits)
      → IfOk r (IsVerifierBy held (options_of given) limits)
  set_made e (Ok v) h = (h.2, h.3, rw e (h.0, ap options_of h.1), rw e h.4)
  set_made e (Err s) h = tt

  pub set_unmade : lone_key held ≡ None → (r : Result Verifier ℕ)
      → IfErr r (IsUnfit (SetServes given.algorithms.items (kept_of held.items)))
      → IfErr r (IsUnfit (AreUsable held given.algorithms.items))
  set_unmade e (Ok v) h = tt
  set_unmade e (Err s) h = rw e h

-- ---- of the options of a text

module _ (held : KeyList) (text : List ℕ) (asked : Asked) (limits : Limits) (reads : ReadsText ReadsAsked text (asked_of asked)) where
  pub of_read : (r : Result Made ℕ) → IfOk r (λ m. IsVerifierBy held (options_of asked.validation) limits m.verifier)
      → IfOk r (λ m. m.further ≡ asked.further) → IfOk r (λ m. IsVerifierOf held text limits (made_value m))
  of_read (Ok m) by e = (by.0, by.1, (asked_of asked, reads, ap rules_of e, by.2, by.3))
  of_read (Err s) by e = tt

  pub not_of_read : (r : Result Made ℕ) → IfErr r (IsUnfit (AreUsable held (options_of asked.validation).algorithms))
      → IfErr r (IsUnmade held text)
  not_of_read (Ok m) h = tt
  not_of_read (Err s) (inl m) = inl m
  not_of_read (Err s) (inr u) = inr (inr (u.0, (asked_of asked, reads, u.1)))
