-- The elements that bytes begin with, by their tags.
use Rattle.std.proofs.Common.{◌≡◌, ◌↔◌, ℕ, ◌+◌, ◌<◌, ◌≤◌, List, [], ◌∷◌, ◌++◌, length, get_or, drop, IsTrue, nat_eq}
use Rattle.std.proofs.Common.{refl, sym, subst, ◌∙◌, add-one, suc, arith}
use Rattle.std.proofs.lemmas.Bool.Decides.{nat_tests}
use Rattle.std.proofs.lemmas.List.{drop_all}
use Rattle.std.proofs.Math.Seq.{drop-cons}
use Rattle.jwt_key_files.specs.Der.{element}
use Rattle.jwt_key_files.proofs.Prefixes.{one_element}
use Rattle.jwt_secrets.specs.KeyTexts.{HasElements}

step : (t : ℕ) (ts b c a r : List ℕ) → b ≡ element t c ++ a → HasElements (t ∷ ts) b r ↔ HasElements ts a r
unfolding HasElements
step t ts b c a r e = (
  λ h. subst (λ (x : List ℕ). HasElements ts x r) (one_element t h.0 c h.1.0 a (sym h.1.1.0 ∙ e)).rest h.1.1.1,
  λ h. (c, (a, (e, h))),
)

no_step : (t : ℕ) (ts b r : List ℕ) → ((c a : List ℕ) → b ≡ element t c ++ a → ⊥) → HasElements (t ∷ ts) b r → ⊥
unfolding HasElements
no_step t ts b r none h = none h.0 h.1.0 h.1.1.0

at_end : (b r : List ℕ) → HasElements [] b r ↔ (b ≡ r)
unfolding HasElements
at_end b r = (λ h. h, λ h. h)

-- one more tag
tags_from : (tags : List ℕ) (i : ℕ) → i < length tags → drop i tags ≡ get_or tags i 0 ∷ drop (i + 1) tags
tags_from tags i within = rw add-one (drop-cons tags i 0 within)

-- that these tags are those of the bytes is the same for the tags from a place on, and the bytes after the elements before
abbrev pub GoesOn : (tags bytes : List ℕ) (i : ℕ) (rest : List ℕ) → Type 0
GoesOn tags bytes i rest = (r : List ℕ) → HasElements tags bytes r ↔ HasElements (drop i tags) rest r

pub one_more : (tags bytes rest c a : List ℕ) (i : ℕ) → i < length tags → rest ≡ element (get_or tags i 0) c ++ a
    → GoesOn tags bytes i rest → GoesOn tags bytes (i + 1) a
one_more tags bytes rest c a i within e so_far r =
    let s = step (get_or tags i 0) (drop (i + 1) tags) rest c a r e in
    let same : drop i tags ≡ get_or tags i 0 ∷ drop (i + 1) tags = tags_from tags i within in (
      λ h. s.0 (subst (λ (ts : List ℕ). HasElements ts rest r) same ((so_far r).0 h)),
      λ h. (so_far r).1 (subst (λ (ts : List ℕ). HasElements ts rest r) (sym same) (s.1 h)),
    )

pub none_more : (tags bytes rest : List ℕ) (i : ℕ) → i < length tags
    → ((c a : List ℕ) → rest ≡ element (get_or tags i 0) c ++ a → ⊥)
    → GoesOn tags bytes i rest → (r : List ℕ) → HasElements tags bytes r → ⊥
none_more tags bytes rest i within none so_far r h =
    no_step (get_or tags i 0) (drop (i + 1) tags) rest r none
    (subst (λ (ts : List ℕ). HasElements ts rest r) (tags_from tags i within) ((so_far r).0 h))

pub after_all : (tags bytes rest : List ℕ) (i : ℕ) → length tags ≤ i → GoesOn tags bytes i rest → (r : List ℕ)
    → HasElements tags bytes r ↔ (rest ≡ r)
after_all tags bytes rest i past so_far r =
    let all : drop i tags ≡ [] = drop_all i tags past in
    let end = at_end rest r in (
      λ h. end.0 (subst (λ (ts : List ℕ). HasElements ts rest r) all ((so_far r).0 h)),
      λ h. (so_far r).1 (subst (λ (ts : List ℕ). HasElements ts rest r) (sym all) (end.1 h)),
    )

-- the rest that follows the elements, which is all that may follow
pub one_rest : (tags b r s : List ℕ) → HasElements tags b r → HasElements tags b s → r ≡ s
unfolding HasElements
one_rest [] b r s h k = sym h ∙ k
one_rest (t ∷ ts) b r s h k = one_rest ts h.1.0 r s h.1.1.1 ((step t ts b h.0 h.1.0 s h.1.1.0).0 k)

some_left : (n : ℕ) → IsTrue (nat_eq (suc n) 0) → ⊥
some_left n t = grind (arith, nat_tests)

pub no_rest : (tags b rest : List ℕ) → HasElements tags b rest → IsTrue (nat_eq (length rest) 0) ↔ HasElements tags b []
no_rest tags b [] h = (λ _. h, λ _. refl)
no_rest tags b (x ∷ r) h = (
  λ t. absurd (some_left (length r) t),
  λ k. let e : (x ∷ r) ≡ [] = one_rest tags b
      (x ∷ r) [] h k in cc,
)
