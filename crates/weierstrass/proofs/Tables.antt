-- Tables of a base point's multiples with z = 1, by computing.
use Rattle.std.proofs.Common.{◌≡◌, ℕ, zero, suc, ◌+◌, ◌*◌, ◌%◌, ◌<◌, Bool, true, ◌&&◌, eqb, ltb, List, [], ◌∷◌, length}
use Rattle.std.proofs.Common.{get_or, inl, inr, refl, ap, arith}
use Rattle.std.proofs.Math.Nat.{mod-eq_of_lt}
use Rattle.std.proofs.lemmas.Bool.{and_parts, eqb-true, ltb-true}
use Rattle.weierstrass.specs.Weierstrass.{Point, sum_of}
use Rattle.weierstrass.specs.Group.{IsField, IsCurve, Alike, IsPoint, spot_point, times_point}
use Rattle.weierstrass.specs.Jacobian.{IsMultiple}
use Rattle.weierstrass.proofs.PointLemmas.{alike_self, alike_turned, alike_twice}
use Rattle.weierstrass.proofs.Sums.{pos, sum_alike}
use Rattle.weierstrass.proofs.Law.{point_alike}
use Rattle.weierstrass.proofs.Multiples.{multiple_point, neutral_left}
use Rattle.weierstrass.proofs.JacobianWindows.{affine_multiple}

-- (x, y) is Q, whose z is below p and not 0
unfoldable pub is_affine : (p : ℕ) → Point → (x y : ℕ) → Bool
is_affine p Q x y = ltb 0 (Q.z % p) && (eqb (Q.x % p) ((Q.z * x) % p) && eqb (Q.y % p) ((Q.z * y) % p))

-- the rows are Q, Q and G, and so on, of which each row's numbers are x and y
unfoldable pub are_rows : (p b : ℕ) (x_of y_of : List ℕ → ℕ) (G : Point) → List (List ℕ) → Point → Bool
are_rows p b x_of y_of G [] Q = true
are_rows p b x_of y_of G (r ∷ rs) Q = is_affine p Q (x_of r) (y_of r) && are_rows p b x_of y_of G rs (sum_of p b Q G)

-- each row's number is below p
unfoldable pub are_below : (p : ℕ) (number_of : List ℕ → ℕ) → List (List ℕ) → Bool
are_below p number_of [] = true
are_below p number_of (r ∷ rs) = ltb (number_of r) p && are_below p number_of rs

pub below_at : (p : ℕ) (number_of : List ℕ → ℕ) (rows : List (List ℕ)) → are_below p number_of rows ≡ true → (k : ℕ)
    → k < length rows
    → number_of (get_or rows k []) < p
unfolding are_below
below_at p number_of [] h k lt = absurd (omega arith)
below_at p number_of (r ∷ rs) h zero lt = let parts = and_parts (ltb (number_of r) p) (are_below p number_of rs) h in
    ltb-true (number_of r) p parts.0
below_at p number_of (r ∷ rs) h (suc k) lt =
    let parts = and_parts (ltb (number_of r) p) (are_below p number_of rs) h in below_at p number_of rs parts.1 k (omega arith)

pub affine_alike : (p : ℕ) → IsField p → (Q : Point) (x y : ℕ) → is_affine p Q x y ≡ true → Alike p Q (spot_point x y)
unfolding is_affine
affine_alike p field Q x y h =
    let above = field.above in
    let none : 0 % p ≡ 0 = mod-eq_of_lt (omega arith) in
    let a = and_parts _ _ h in
    let b = and_parts _ _ a.1 in
    let some = ltb-true 0 (Q.z % p) a.0 in
    record {
      factor = Q.z;
      unit = elim (field.unit_or_zero Q.z) [ inl u ↦ u | inr z ↦ absurd (omega arith) ];
      is_times = record {
        x = eqb-true _ _ b.0;
        y = eqb-true _ _ b.1;
        z = ap (λ n. n % p) (let z = Q.z in let k : z ≡ z * 1 = omega arith in k);
      };
    }

module _ (p b : ℕ) (curve : IsCurve p b) (G : Point) (is_point : IsPoint p b G) where
  abbrev IsAt : (j : ℕ) → Point → Type 0
  IsAt j Q = Alike p (times_point p b j G) Q

  first_at : IsAt 1 G
  unfolding times_point
  first_at = neutral_left p b curve G is_point

  next_at : (j : ℕ) (Q : Point) → IsAt j Q → IsAt (suc j) (sum_of p b Q G)
  unfolding times_point
  next_at j Q a = sum_alike p (pos p b curve) b (times_point p b j G) Q G G a (alike_self p G)

  module _ (x_of y_of : List ℕ → ℕ) where
    row_at : (rows : List (List ℕ)) (Q : Point) (j : ℕ) → IsAt j Q → are_rows p b x_of y_of G rows Q ≡ true → (k : ℕ)
        → k < length rows
        → IsAt (j + k) (spot_point (x_of (get_or rows k [])) (y_of (get_or rows k [])))
    unfolding are_rows
    row_at [] Q j a h k lt = absurd (omega arith)
    row_at (r ∷ rs) Q j a h zero lt =
        let parts = and_parts (is_affine p Q (x_of r) (y_of r)) (are_rows p b x_of y_of G rs (sum_of p b Q G)) h in
        let e : j + 0 ≡ j = omega arith in
        rw e (alike_twice p (times_point p b j G) Q (spot_point (x_of r) (y_of r)) a
        (affine_alike p curve.field Q (x_of r) (y_of r) parts.0))
    row_at (r ∷ rs) Q j a h (suc k) lt =
        let parts = and_parts (is_affine p Q (x_of r) (y_of r)) (are_rows p b x_of y_of G rs (sum_of p b Q G)) h in
        let e : j + suc k ≡ suc j + k = omega arith in
        rw e (row_at rs (sum_of p b Q G) (suc j) (next_at j Q a) parts.1 k (omega arith))

-- each row is the base point's multiple
pub row_multiple : (p b : ℕ) (G : Point) (x_of y_of : List ℕ → ℕ) (rows : List (List ℕ))
    → are_rows p b x_of y_of G rows G ≡ true
    → (j k : ℕ) → 1 + k ≡ j → k < length rows
    → IsMultiple p b j G (spot_point (x_of (get_or rows k [])) (y_of (get_or rows k [])))
row_multiple p b G x_of y_of rows h j k e lt =
    let A = spot_point (x_of (get_or rows k [])) (y_of (get_or rows k [])) in
    affine_multiple p b j G A refl
    (λ curve is_point.
    let there : Alike p (times_point p b j G) A =
    rw (← e) (row_at p b curve G is_point x_of y_of rows G 1 (first_at p b curve G is_point) h k lt) in (
      point_alike p b curve A (times_point p b j G) (alike_turned p (times_point p b j G) A there)
          (multiple_point p b curve j G is_point),
      there,
    ))
