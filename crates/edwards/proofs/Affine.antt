-- Affine coordinates of a point: v x^2 = u holds of them.
use Rattle.std.proofs.Common.{◌≡◌, ℕ, ◌<◌, true, List, [], ◌∷◌, refl, arith}
use Rattle.residues.specs.Modulo.{plus, times}
use Rattle.edwards.specs.Edwards.{Point}
use Rattle.algebra.proofs.Terms.{Term, value}
use Rattle.algebra.proofs.Terms.Term.{num, ◌⊕◌, ◌⊖◌, ◌⊗◌}
use Rattle.algebra.proofs.Polynomials.{is_identity, follows}
use Rattle.edwards.specs.Group.{Alike, IsField, IsPoint}
use Rattle.edwards.proofs.Curves.{u_by, v_by}
use Rattle.edwards.proofs.Identities.{x1, y1, z1, t1, x2, y2, d, P}
use Rattle.edwards.proofs.Laws.{env, four, nil, cancel, apart_times}
use Rattle.edwards.proofs.Terms.{equation_left, equation_right, product_left, product_right}

abbrev u : Term
u = y2 ⊗ y2 ⊖ num 1

abbrev v : Term
v = d ⊗ (y2 ⊗ y2) ⊕ num 1

abbrev fourth : Term
fourth = z1 ⊗ z1 ⊗ (z1 ⊗ z1)

abbrev root_left : Term
root_left = fourth ⊗ (v ⊗ (x2 ⊗ x2))

abbrev root_right : Term
root_right = fourth ⊗ u

abbrev root_lines : List (Term × Term × Term)
root_lines =
    ((x2 ⊗ z1 ⊕ x1) ⊗ (d ⊗ (y2 ⊗ z1 ⊗ (y2 ⊗ z1)) ⊕ z1 ⊗ z1), x2 ⊗ z1, x1)
    ∷ ((y2 ⊗ z1 ⊕ y1) ⊗ (d ⊗ (x1 ⊗ x1) ⊖ z1 ⊗ z1), y2 ⊗ z1, y1)
    ∷ (d ⊗ (x1 ⊗ y1 ⊕ t1 ⊗ z1), product_left P, product_right P)
    ∷ (num 0 ⊖ z1 ⊗ z1, equation_left P, equation_right d P) ∷ []

root_identity : is_identity root_left root_right root_lines ≡ true
unfolding is_identity
root_identity = refl

abbrev apart_left : Term
apart_left = d ⊕ num 1

abbrev apart_lines : List (Term × Term × Term)
apart_lines = (num 1 ⊖ d ⊗ (x2 ⊗ x2), v, num 0) ∷ (d, v ⊗ (x2 ⊗ x2), u) ∷ []

apart_identity : is_identity apart_left (num 0) apart_lines ≡ true
unfolding is_identity
apart_identity = refl

module _ (p d : ℕ) (field : IsField p) where
  positive : 0 < p
  positive = omega (arith, field.above_two)

  -- v x^2 = u, if x z = X and y z = Y
  pub root_of_point : (Q : Point) (x y : ℕ) → IsPoint p d Q → Alike p (times p x Q.z) Q.x → Alike p (times p y Q.z) Q.y
      → Alike p (times p (v_by p d field y) (times p x x)) (u_by p d field y)
  unfolding value
  root_of_point Q x y on ex ey =
      let zz = times p Q.z Q.z in
      let apart = apart_times p d field Q.z Q.z on.finite on.finite in
      cancel p d field (times p zz zz) _ _ (apart_times p d field zz zz apart apart)
      (follows p positive root_left root_right root_lines (env Q (four x y 0 0) nil d 0) root_identity
      (ex, (ey, (on.product, (on.equation, tt)))))

  -- v is not 0, if d is not -1
  pub v_apart : (x y : ℕ) → (Alike p (plus p d 1) 0 → ⊥) → Alike p (times p (v_by p d field y) (times p x x)) (u_by p d field y)
      → Alike p (v_by p d field y) 0 → ⊥
  unfolding value
  v_apart x y apart h none =
      apart (follows p positive apart_left (num 0) apart_lines (env nil (four x y 0 0) nil d 0) apart_identity (none, (h, tt)))
