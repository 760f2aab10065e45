-- The algorithms that are left for a family.
use Rattle.std.proofs.Common.{◌≡◌, ◌⊎◌, ◌↔◌, List, [], ◌∷◌, Bool, true, false, cond, Option, None, Some}
use Rattle.std.proofs.Common.{All, Contains, ap, arith, inl, inr, refl, subst, sym, ◌∙◌, ⊎_elim}
use Rattle.std.specs.List.{Any, filter}
use Rattle.std.specs.Bool.{Decides}
use Rattle.std.proofs.lemmas.Bool.{false≢true}
use Rattle.std.proofs.lemmas.List.Elements.{All-cons, All-contains, All-contains_itself, All-filter, All-head, All-nil, All-tail}
use Rattle.std.proofs.lemmas.List.Elements.{All-weaker, Contains-append_right, filter_passes}
use denote.Enum.Bare.{sameb}
use Rattle.jwt_base.specs.Algorithm.{family_of}
use Rattle.jwt_base.specs.contracts.algorithms.AlgorithmFamily.{the_type as families}
use Rattle.jwt_base.specs.declared.algorithms.Algorithm.{Algorithm}
use Rattle.jwt_base.specs.declared.algorithms.AlgorithmFamily.{AlgorithmFamily}
use Rattle.jwt_base.specs.equality.VariantsSame.{variant_decides}
use Rattle.jsonwebtoken.specs.Family.{AreOfOneFamily, is_of, left_for, or_else}

-- ---- a filter

-- each element that passes is kept
module _ {X : Type 0} (p : X → Bool) where
  abbrev Keeps : List X → X → Type 0
  Keeps l x = p x ≡ true → Contains l x

  kept_more : (x : X) (xs : List X) (b : Bool) → p x ≡ b → All (Keeps (filter p xs)) xs
      → All (Keeps (cond b (x ∷ filter p xs) (filter p xs))) (x ∷ xs)
  kept_more x xs true is kept =
      All-cons (Keeps (x ∷ filter p xs)) x xs (λ _. (0, omega arith, refl))
      (All-weaker (Keeps (filter p xs)) (Keeps (x ∷ filter p xs))
      (λ y k e. Contains-append_right (x ∷ []) (filter p xs) y (k e)) xs kept)
  kept_more x xs false is kept =
      All-cons (Keeps (filter p xs)) x xs (λ e. absurd (false≢true (sym is ∙ e))) kept

  kept : (xs : List X) → All (Keeps (filter p xs)) xs
  kept [] = All-nil (Keeps [])
  kept (x ∷ xs) = kept_more x xs (p x) refl (kept xs)

  all_kept : (xs : List X) → All (λ x. p x ≡ true) xs → filter p xs ≡ xs
  all_kept [] h = refl
  all_kept (x ∷ xs) h =
      ap (λ b. cond b (x ∷ filter p xs) (filter p xs)) (All-head (λ y. p y ≡ true) x xs h)
      ∙ ap (λ l. x ∷ l) (all_kept xs (All-tail (λ y. p y ≡ true) x xs h))

  none_kept : (xs : List X) → All (λ x. p x ≡ false) xs → filter p xs ≡ []
  none_kept [] h = refl
  none_kept (x ∷ xs) h =
      ap (λ b. cond b (x ∷ filter p xs) (filter p xs)) (All-head (λ y. p y ≡ false) x xs h)
      ∙ none_kept xs (All-tail (λ y. p y ≡ false) x xs h)

no_element : {X : Type 0} (x : X) → ¬ Contains [] x
no_element x h = omega arith

-- ---- a family

abbrev pub IsOf : AlgorithmFamily → Algorithm → Type 0
IsOf f a = family_of a ≡ f

same_family : (f : AlgorithmFamily) (a : Algorithm) → Decides (is_of f a) (family_of a ≡ f)
same_family f a = variant_decides families tt (family_of a) f

module _ (f : AlgorithmFamily) (listed : List Algorithm) where
  abbrev here : List Algorithm
  here = filter (is_of f) listed

  abbrev left : List Algorithm
  left = left_for (Some f) listed

  listed_here : (a : Algorithm) → Contains here a → Contains listed a
  listed_here a h =
      All-contains (Contains listed) here a (All-filter (is_of f) (Contains listed) listed (All-contains_itself listed)) h

  of_here : (a : Algorithm) → Contains here a → family_of a ≡ f
  of_here a h =
      (same_family f a).0 (All-contains (λ b. is_of f b ≡ true) here a (filter_passes (is_of f) listed) h)

  pub is_here : (a : Algorithm) → Contains listed a → family_of a ≡ f → Contains here a
  is_here a h e = All-contains (Keeps (is_of f) here) listed a (kept (is_of f) listed) h ((same_family f a).1 e)

  some_left : (l : List Algorithm) (a : Algorithm) → Contains l a → or_else l listed ≡ l
  some_left [] a h = absurd (no_element a h)
  some_left (b ∷ l) a h = refl

  -- an algorithm of the family is listed: those of it are left
  pub left_are_here : (a : Algorithm) → Contains listed a → family_of a ≡ f → left ≡ here
  left_are_here a h e = some_left here a (is_here a h e)

  -- and just these are
  pub left_are_of_family : (a : Algorithm) → Contains listed a → family_of a ≡ f → (b : Algorithm) → Contains left b → family_of b ≡ f
  left_are_of_family a h e b l = of_here b (subst (λ (m : List Algorithm). Contains m b) (left_are_here a h e) l)

  not_of : (¬ Any (IsOf f) listed) → (b : Algorithm) → Contains listed b → (yes : Bool) → Decides yes (IsOf f b) → yes ≡ false
  not_of none b h true d = absurd (none (h.0, b, h.1, h.2, d.0 refl))
  not_of none b h false d = refl

  -- no algorithm of it is: all are left
  pub all_left : (¬ Any (IsOf f) listed) → left ≡ listed
  all_left none = ap (λ l. or_else l listed) (none_kept (is_of f) listed
      (All-weaker (Contains listed) (λ b. is_of f b ≡ false)
      (λ b h. not_of none b h (is_of f b) (same_family f b)) listed (All-contains_itself listed)))

  pub of_any : Any (IsOf f) listed → left ≡ here
  of_any some = left_are_here some.1 (some.0, some.2, some.3) some.4

  within : (l : List Algorithm) → ((b : Algorithm) → Contains l b → Contains listed b) → (a : Algorithm)
      → Contains (or_else l listed) a → Contains listed a
  within [] inside a h = h
  within (b ∷ l) inside a h = inside a h

  pub left_within : (a : Algorithm) → Contains left a → Contains listed a
  left_within a h = within here listed_here a h

  -- of the left ones: either all are of the family, or none that is listed is
  of_left : (a : Algorithm) → Contains left a → (yes : Bool) → Decides yes (IsOf f a)
      → IsOf f a ⊎ (¬ Any (IsOf f) listed)
  of_left a h true d = inl (d.0 refl)
  of_left a h false d = inr (λ some. let e = of_here a (subst (λ (l : List Algorithm). Contains l a) (of_any some) h) in
      false≢true (d.1 e))

  pub is_left : (a : Algorithm) → Contains listed a → IsOf f a ⊎ (¬ Any (IsOf f) listed) ↔ Contains left a
  is_left a h = (
    λ s. ⊎_elim
        (λ e. subst (λ (l : List Algorithm). Contains l a) (sym (left_are_here a h e)) (is_here a h e))
        (λ none. subst (λ (l : List Algorithm). Contains l a) (sym (all_left none)) h) s,
    λ l. of_left a l (is_of f a) (same_family f a),
  )

  pub left_are_of : (a : Algorithm) → Any (IsOf f) listed
      → (family_of a ≡ f) ↔ All (λ b. family_of b ≡ family_of a) left
  left_are_of a some = (
    λ e. subst (All (λ b. family_of b ≡ family_of a)) (sym (of_any some))
        (All-weaker (Contains here) (λ b. family_of b ≡ family_of a) (λ b h. of_here b h ∙ sym e) here
        (All-contains_itself here)),
    λ all.
        let h = is_here some.1 (some.0, some.2, some.3) some.4 in
        let e = All-contains (λ b. family_of b ≡ family_of a) here some.1
        (subst (All (λ b. family_of b ≡ family_of a)) (of_any some) all) h in
        sym e ∙ some.4,
  )

-- ---- algorithms of one family

or_same : (l : List Algorithm) → or_else l l ≡ l
or_same [] = refl
or_same (a ∷ l) = refl

one_left : (f g : AlgorithmFamily) (listed : List Algorithm) → All (IsOf g) listed → (yes : Bool) → Decides yes (f ≡ g)
    → left_for (Some f) listed ≡ listed
one_left f g listed all true d =
    let e : f ≡ g = d.0 refl in
    let kept : filter (is_of f) listed ≡ listed = all_kept (is_of f) listed
    (All-weaker (IsOf g) (λ a. is_of f a ≡ true) (λ a h. (same_family f a).1 (h ∙ sym e)) listed all) in
    ap (λ l. or_else l listed) kept ∙ or_same listed
one_left f g listed all false d =
    all_left f listed (λ some. false≢true (d.1 (sym some.4 ∙ subst (IsOf g) some.3 (all some.0 some.1 some.2))))

pub one_family_left : (f : Option AlgorithmFamily) (listed : List Algorithm) → AreOfOneFamily listed → left_for f listed ≡ listed
one_family_left None listed one = refl
one_family_left (Some f) listed one =
    one_left f one.0 listed one.1 (sameb families f one.0) (variant_decides families tt f one.0)
