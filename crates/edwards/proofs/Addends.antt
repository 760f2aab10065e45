-- Sums with what was prepared of a point.
use Rattle.std.proofs.Common.{◌≡◌, ℕ, ◌*◌, ◌<◌, [], ◌∷◌, refl, sym, ◌∙◌}
use Rattle.std.proofs.Math.Nat.{mod-mod}
use Rattle.residues.specs.Modulo.{plus, times}
use Rattle.edwards.specs.Edwards.{Point, sum_of}
use Rattle.edwards.specs.Factors.{addend_of, sum_with}
use Rattle.algebra.proofs.Terms.{value, at}
use Rattle.algebra.proofs.Polynomials.{follows}
use Rattle.edwards.specs.Group.{Alike}
use Rattle.edwards.proofs.Identities as I

module _ (p k : ℕ) (positive : 0 < p) where
  exact_times : (a b c e : ℕ) → Alike p (times p a b) (times p c e) → times p a b ≡ times p c e
  unfolding times
  exact_times a b c e h = sym (mod-mod (a * b) p) ∙ h ∙ mod-mod (c * e) p

  addend_c : (s t : ℕ) → times p s (times p k t) ≡ times p (times p s k) t
  unfolding value
  addend_c s t = exact_times _ _ _ _
      (follows p positive I.addend_c_left I.addend_c_right I.addend_c_lines
      (at (0 ∷ 0 ∷ 0 ∷ s ∷ 0 ∷ 0 ∷ 0 ∷ t ∷ 0 ∷ 0 ∷ 0 ∷ 0 ∷ k ∷ [])) I.addend_c tt)

  addend_d : (y z : ℕ) → times p y (plus p z z) ≡ times p (plus p y y) z
  unfolding value
  addend_d y z = exact_times _ _ _ _
      (follows p positive I.addend_d_left I.addend_d_right I.addend_d_lines
      (at (0 ∷ 0 ∷ y ∷ 0 ∷ 0 ∷ 0 ∷ z ∷ 0 ∷ 0 ∷ 0 ∷ 0 ∷ 0 ∷ k ∷ [])) I.addend_d tt)

  pub sum_with_is : (P Q : Point) → sum_with p P (addend_of p k Q) ≡ sum_of p k P Q
  unfolding sum_with addend_of sum_of
  sum_with_is P Q = rw (addend_c P.t Q.t, addend_d P.z Q.z) refl
