-- Lists of what has a property, in the order of their places: they grow place by place.
use Rattle.std.proofs.Common.{◌≡◌, ℕ, ◌+◌, ◌<◌, ◌≤◌, List, [], ◌∷◌, ◌++◌, get_or, arith, inl, inr, subst}
use Rattle.std.specs.Prelude.{◌↔◌, ◌⊎◌, AllPairs, Contains}
use Rattle.std.proofs.Math.Nat.{eq-or-lt_of_le}
use Rattle.std.proofs.lemmas.List.Elements.{Contains-get_or, Contains-append_left, Contains-push, Contains-push_cases}
use Rattle.std.proofs.lemmas.List.Quantifiers.{all_pairs_push}

-- the list has what has the property, up to the place `n`
pub record IsListed {A : Type 0} (place : A → ℕ) (P : A → Type 0) (n : ℕ) (xs : List A) : Type 0 where
  pub listed : (a : A) → Contains xs a ↔ ((place a ≤ n) × P a)
  pub ordered : AllPairs (λ a b. place a < place b) xs

pub IsListed-none : {A : Type 0} (place : A → ℕ) (P : A → Type 0) → ((a : A) → 0 < place a) → IsListed place P 0 []
IsListed-none place P starts = record {
  listed = λ a. (λ h. absurd (let k = h.1 in omega arith), λ h. absurd (let s = starts a in let k = h.0 in omega arith));
  ordered = λ i j d lt h. absurd (omega arith);
}

at_most : {A : Type 0} (place : A → ℕ) (P : A → Type 0) (n : ℕ) (a : A) → (place a ≡ n + 1 → ⊥) → place a ≤ n + 1
    → place a ≤ n
at_most place P n a other h = elim (eq-or-lt_of_le h) [ inl e ↦ absurd (other e) | inr lt ↦ omega arith ]

-- what is at the next place does not have the property
pub IsListed-skip : {A : Type 0} (place : A → ℕ) (P : A → Type 0) (n : ℕ) (xs : List A)
    → ((a : A) → place a ≡ n + 1 → P a → ⊥) → IsListed place P n xs → IsListed place P (n + 1) xs
IsListed-skip place P n xs without h = record {
  listed = λ a. (
    λ k. let f = (h.listed a).0 k in let m = f.0 in (omega arith, f.1),
    λ k. (h.listed a).1 (at_most place P n a (λ e. without a e k.1) k.0, k.1),
  );
  ordered = h.ordered;
}

pushed : {A : Type 0} (place : A → ℕ) (P : A → Type 0) (n : ℕ) (xs : List A) (y : A) → place y ≡ n + 1 → P y
    → IsListed place P n xs → (a : A) → Contains xs a ⊎ (y ≡ a) → (place a ≤ n + 1) × P a
pushed place P n xs y at p h a (inl k) = let f = (h.listed a).0 k in let m = f.0 in (omega arith, f.1)
pushed place P n xs y at p h a (inr e) = let m : place y ≤ n + 1 = omega arith in
    subst (λ b. (place b ≤ n + 1) × P b) e (m, p)

kept : {A : Type 0} (place : A → ℕ) (P : A → Type 0) (n : ℕ) (xs : List A) (y : A)
    → ((a : A) → place a ≡ n + 1 → y ≡ a) → IsListed place P n xs → (a : A) → (place a ≡ n + 1) ⊎ (place a < n + 1) → P a
    → Contains (xs ++ y ∷ []) a
kept place P n xs y only h a (inl e) p = subst (λ b. Contains (xs ++ y ∷ []) b) (only a e) (Contains-push xs y)
kept place P n xs y only h a (inr lt) p = Contains-append_left xs (y ∷ []) a ((h.listed a).1 (omega arith, p))

-- what is at the next place has the property
pub IsListed-push : {A : Type 0} (place : A → ℕ) (P : A → Type 0) (n : ℕ) (xs : List A) (y : A) → place y ≡ n + 1
    → ((a : A) → place a ≡ n + 1 → y ≡ a) → P y → IsListed place P n xs → IsListed place P (n + 1) (xs ++ y ∷ [])
IsListed-push place P n xs y at only p h = record {
  listed = λ a. (
    λ k. pushed place P n xs y at p h a (Contains-push_cases xs y a k),
    λ k. kept place P n xs y only h a (eq-or-lt_of_le k.0) k.1,
  );
  ordered = all_pairs_push (λ a b. place a < place b) xs y h.ordered
      (λ k d lt. let m = ((h.listed (get_or xs k d)).0 (Contains-get_or xs k d lt)).0 in omega arith);
}
