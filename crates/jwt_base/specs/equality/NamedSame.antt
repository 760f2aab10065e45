-- The sameness of the values of a spelling, and the bytes that they feed to a hasher.
use Rattle.std.specs.Prelude.{◌≡◌, ◌&&◌, ℕ, List, Bool, refl, if◌then◌else◌}
use Rattle.std.specs.Bool.{Decides, beq}
use Rattle.std.specs.Cmp.{IsEquivalence, booleans_Decides}
use Rattle.std.specs.Hash.{HashWrites, Alike, str}
use Rattle.std.specs.Str.{bytes_eq}
use Rattle.std.proofs.Common.{sym, ap, ◌∙◌}
use Rattle.std.proofs.lemmas.Slice.Eq.{bytes_eq-Decides}
use Rattle.jwt_base.specs.Spelling.{Spelling, named}
use Rattle.jwt_base.specs.equality.Decided.{and_decides, same_as, decided_by, fed_by_mark}

-- both free or both known, and the same string
abbrev pub named_eq : {A : Type 0} → Spelling A → A → A → Bool
named_eq n a b = beq (n.is_other a) (n.is_other b) && bytes_eq (n.text a) (n.text b)

-- the string is fed
abbrev pub named_fed : {A : Type 0} → Spelling A → A → HashWrites
named_fed n a = str (n.text a)

abbrev back : {A : Type 0} → Spelling A → Bool → List ℕ → A
back n free s = if free then n.other s else named n s

-- the string, and whether it is a free one, give the value back
abbrev pub IsKept : {A : Type 0} → Spelling A → A → Type 0
IsKept n a = back n (n.is_other a) (n.text a) ≡ a

-- for a spelling that keeps every value
module _ {A : Type 0} (n : Spelling A) (kept : (a : A) → IsKept n a) where
  pub named_decides : (a b : A) → Decides (named_eq n a b) (a ≡ b)
  named_decides a b = same_as _ (and_decides (beq (n.is_other a) (n.is_other b)) (bytes_eq (n.text a) (n.text b))
      (booleans_Decides (n.is_other a) (n.is_other b)) (bytes_eq-Decides (n.text a) (n.text b)))
      (λ p. sym (kept a) ∙ (λ i. back n (p.0 i) (p.1 i)) ∙ kept b)
      (λ e. (ap n.is_other e, ap n.text e))

  pub named_eq_equiv : IsEquivalence (named_eq n)
  named_eq_equiv = decided_by (named_eq n) (λ a. a) named_decides

  pub named_alike : Alike (named_eq n) (named_fed n)
  named_alike = fed_by_mark (named_eq n) (λ a. a) named_decides (named_fed n) (named_fed n) (λ a. refl)
