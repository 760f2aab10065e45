-- Two `Validation`s are equal exactly when their options are the same.
use Rattle.std.specs.Prelude.{◌≡◌, ◌&&◌, ◌==◌, ℕ, Bool, true, List, String, refl}
use denote.Enum.Bare.{sameb}
use Rattle.std.specs.declared.alloc.Global.{Global}
use Rattle.std.specs.Bool.{Decides, beq}
use Rattle.std.specs.Cmp.{IsEquivalence, booleans_Decides}
use Rattle.std.specs.Cmp.Lexicographic.{pointwise}
use Rattle.std.specs.HashSet.{HashSet, contains, contains_text, hash_set_eq}
use Rattle.std.specs.HashSet.Eq.{hash_set_eq_decides}
use Rattle.std.specs.Str.{bytes_eq}
use Rattle.std.specs.String.{string_bytes, string_eq, string_eq_equiv}
use Rattle.std.proofs.Common.{sym, ap, ◌∙◌}
use Rattle.std.proofs.lemmas.Bool.Decides.{same_from_decides, Decides-eqb}
use Rattle.std.proofs.lemmas.List.Folds.{Any-from_list_any}
use Rattle.std.proofs.lemmas.Slice.Eq.{bytes_eq-Decides, slice_eq-Decides}
use Rattle.jwt_base.specs.equality.Decided.{and_decides, decided_by, option_decides, option_eq}
use Rattle.jwt_base.specs.equality.VariantsSame.{variant_decides}
use Rattle.jwt_base.specs.contracts.algorithms.Algorithm.{the_type}
use Rattle.jwt_validation.specs.OptionsOf.{options_of}
use Rattle.jwt_validation.specs.declared.validation.Validation.{Validation}

-- sets of strings: each has every string of the other
module _ {S : Type 0} where
  texts_kept : (s t : HashSet (String Global) S) → ((q : String Global) → contains string_eq s q ≡ contains string_eq t q)
      → (bs : List ℕ) → contains_text s bs ≡ true → contains_text t bs ≡ true
  texts_kept s t same bs h =
      let found = Any-from_list_any (λ k. bytes_eq bs (string_bytes k)) s.keys h in
      let is : bs ≡ string_bytes found.1 = (bytes_eq-Decides bs (string_bytes found.1)).0 found.4 in
      ap (contains_text t) is ∙ sym (same found.1) ∙ sym (ap (contains_text s) is) ∙ h

  sets_decide : (s t : HashSet (String Global) S) → Decides (hash_set_eq string_eq s t) (contains_text s ≡ contains_text t)
  sets_decide s t =
      let by_keys = hash_set_eq_decides string_eq_equiv s t in (
        λ h i bs. same_from_decides {P = contains_text s bs ≡ true} (contains_text s bs) (contains_text t bs)
            (λ x. x, λ x. x) (texts_kept t s (λ q. sym (by_keys.0 h q)) bs, texts_kept s t (by_keys.0 h) bs) i,
        λ e. by_keys.1 (λ q i. e i (string_bytes q)),
      )

-- the meaning of each field is the same
abbrev pub validation_eq : Validation → Validation → Bool
validation_eq a b = hash_set_eq string_eq a.required_spec_claims b.required_spec_claims && ((a.leeway == b.leeway)
    && ((a.reject_tokens_expiring_in_less_than == b.reject_tokens_expiring_in_less_than) && (beq a.validate_exp b.validate_exp
    && (beq a.validate_nbf b.validate_nbf &&
    (beq a.validate_aud b.validate_aud && (option_eq (hash_set_eq string_eq) a.aud b.aud
    && (option_eq (hash_set_eq string_eq) a.iss b.iss &&
    (option_eq string_eq a.sub b.sub && (pointwise (sameb the_type) a.algorithms.items b.algorithms.items
    && hash_set_eq string_eq a.understood_crit b.understood_crit)))))))))

pub validation_decides : (a b : Validation) → Decides (validation_eq a b) (options_of a ≡ options_of b)
validation_decides a b =
    let parts = and_decides _ _ (sets_decide a.required_spec_claims b.required_spec_claims)
    (and_decides _ _ (Decides-eqb a.leeway b.leeway)
    (and_decides _ _ (Decides-eqb a.reject_tokens_expiring_in_less_than b.reject_tokens_expiring_in_less_than)
    (and_decides _ _ (booleans_Decides a.validate_exp b.validate_exp)
    (and_decides _ _ (booleans_Decides a.validate_nbf b.validate_nbf)
    (and_decides _ _ (booleans_Decides a.validate_aud b.validate_aud)
    (and_decides _ _ (option_decides (hash_set_eq string_eq) contains_text sets_decide a.aud b.aud)
    (and_decides _ _ (option_decides (hash_set_eq string_eq) contains_text sets_decide a.iss b.iss)
    (and_decides _ _ (option_decides string_eq string_bytes (λ x y. bytes_eq-Decides (string_bytes x) (string_bytes y))
    a.sub b.sub)
    (and_decides _ _ (slice_eq-Decides (variant_decides the_type tt) a.algorithms.items b.algorithms.items
    (pointwise (sameb the_type) a.algorithms.items b.algorithms.items) refl)
    (sets_decide a.understood_crit b.understood_crit)))))))))) in (
      λ h. let p = parts.0 h in λ i. record {
        required = p.0 i;
        leeway = p.1.0 i;
        reject = p.1.1.0 i;
        checks_exp = p.1.1.1.0 i;
        checks_nbf = p.1.1.1.1.0 i;
        checks_aud = p.1.1.1.1.1.0 i;
        aud = p.1.1.1.1.1.1.0 i;
        iss = p.1.1.1.1.1.1.1.0 i;
        sub = p.1.1.1.1.1.1.1.1.0 i;
        algorithms = p.1.1.1.1.1.1.1.1.1.0 i;
        understood = p.1.1.1.1.1.1.1.1.1.1 i;
      },
      λ e. parts.1 (
        λ i. (e i).required,
        (
          λ i. (e i).leeway,
          (
            λ i. (e i).reject,
            (
              λ i. (e i).checks_exp,
              (
                λ i. (e i).checks_nbf,
                (
                  λ i. (e i).checks_aud,
                  (
                    λ i. (e i).aud,
                    (λ i. (e i).iss, (λ i. (e i).sub, (λ i. (e i).algorithms, λ i. (e i).understood))),
                  ),
                ),
              ),
            ),
          ),
        ),
      ),
    )

pub validation_eq_equiv : IsEquivalence validation_eq
validation_eq_equiv = decided_by validation_eq options_of validation_decides
