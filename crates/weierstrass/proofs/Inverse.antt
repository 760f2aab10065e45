-- The point with the other y is the inverse.
use Rattle.std.proofs.Common.{◌≡◌, ℕ, ◌+◌, ◌*◌, ◌%◌, ◌<◌, refl, sym, ap, ◌∙◌, arith}
use Rattle.limbs.proofs.Congruences.{mul_alike}
use Rattle.residues.specs.Modulo.{minus}
use Rattle.weierstrass.specs.Weierstrass.{Point, sum_of}
use Rattle.algebra.proofs.Symbols.{minus_back, cancel}
use Rattle.weierstrass.proofs.Field.{minus_alike}
use Rattle.weierstrass.proofs.PointLemmas.{alike_self, alike_twice}
use Rattle.weierstrass.proofs.Sums.{sum_alike, pos, opposite_sum, opposite_x, opposite_y, opposite_z}
use Rattle.weierstrass.proofs.Law.{sum_neutral, point_alike, is_nothing, is_whole}
use Rattle.weierstrass.specs.Group.{Alike, opposite_of, IsCurve, IsOn, IsPoint, Shape, nowhere, point_at, spot}
use Rattle.weierstrass.specs.Group.{spot_point}

module _ (p b : ℕ) (curve : IsCurve p b) where
  less : 0 < p
  less = pos p b curve

  -- - l y is l (- y)
  minus_times : (l y : ℕ) → minus p 0 (l * y) % p ≡ (l * minus p 0 y) % p
  minus_times l y =
      cancel p less (minus p 0 (l * y)) (l * minus p 0 y) (l * y)
      (minus_back p less 0 (l * y) ∙ ap (λ n. n % p) (let k : 0 ≡ l * 0 = omega arith in k)
      ∙ mul_alike p l l 0 (minus p 0 y + y) refl (sym (minus_back p less 0 y))
      ∙ ap (λ n. n % p) (let k : l * (minus p 0 y + y) ≡ l * minus p 0 y + l * y = omega arith in k))

  pub opposite_alike : (P Q : Point) → Alike p P Q → Alike p (opposite_of p P) (opposite_of p Q)
  unfolding opposite_of
  opposite_alike P Q a = record {
    factor = a.factor;
    unit = a.unit;
    is_times = record {
      x = a.is_times.x;
      y = minus_alike p 0 0 P.y (a.factor * Q.y) refl a.is_times.y ∙ minus_times a.factor Q.y;
      z = a.is_times.z;
    };
  }

  minus_square : (y : ℕ) → (minus p 0 y * minus p 0 y) % p ≡ (y * y) % p
  minus_square y =
      let m = minus p 0 y in
      cancel p less (m * m) (y * y) (m * y)
      (ap (λ n. n % p) (let k : m * m + m * y ≡ m * (m + y) = omega arith in k)
      ∙ mul_alike p m m (m + y) 0 refl (minus_back p less 0 y)
      ∙ ap (λ n. n % p) (let k : m * 0 ≡ y * 0 = omega arith in k)
      ∙ mul_alike p y y 0 (m + y) refl (sym (minus_back p less 0 y))
      ∙ ap (λ n. n % p) (let k : y * (m + y) ≡ y * y + m * y = omega arith in k))

  nowhere_opposite : Alike p (opposite_of p (point_at nowhere)) (point_at nowhere)
  unfolding opposite_of
  nowhere_opposite = record {
    factor = minus p 0 1;
    unit = record { inverse = minus p 0 1; is_inverse = minus_square 1 };
    is_times = record {
      x = is_nothing p (minus p 0 1) 0 refl;
      y = is_whole p (minus p 0 1);
      z = is_nothing p (minus p 0 1) 0 refl;
    };
  }

  shape_opposite : (s : Shape) → IsOn p b s → IsPoint p b (opposite_of p (point_at s))
  unfolding opposite_of
  shape_opposite nowhere on = record { shape = nowhere; on = tt; alike = nowhere_opposite }
  shape_opposite (spot x y) on = record {
    shape = spot x (minus p 0 y);
    on = minus_square y ∙ on;
    alike = alike_self p (spot_point x (minus p 0 y));
  }

  pub opposite_point : (P : Point) → IsPoint p b P → IsPoint p b (opposite_of p P)
  opposite_point P h = point_alike p b curve (opposite_of p P) (opposite_of p (point_at h.shape))
      (opposite_alike P (point_at h.shape) h.alike) (shape_opposite h.shape h.on)

  shape_inverse : (s : Shape) → IsOn p b s → Alike p (sum_of p b (point_at s) (opposite_of p (point_at s))) (point_at nowhere)
  unfolding opposite_of opposite_sum
  shape_inverse nowhere on =
      let O = point_at nowhere in
      let h : IsPoint p b O = record { shape = nowhere; on = tt; alike = alike_self p O } in
      alike_twice p (sum_of p b O (opposite_of p O)) (sum_of p b O O) O
      (sum_alike p less b O O (opposite_of p O) O (alike_self p O) nowhere_opposite) (sum_neutral p b curve O h)
  shape_inverse (spot x y) on =
      let S = opposite_sum p b curve x y on in
      record {
        factor = S.y;
        unit = opposite_y p b curve x y on;
        is_times = record {
          x = is_nothing p S.y S.x (opposite_x p b curve x y on);
          y = is_whole p S.y;
          z = is_nothing p S.y S.z (opposite_z p b curve x y on);
        };
      }

  -- a point and its opposite are nothing
  pub sum_opposite : (P : Point) → IsPoint p b P → Alike p (sum_of p b P (opposite_of p P)) (point_at nowhere)
  sum_opposite P h =
      let N = point_at h.shape in
      alike_twice p (sum_of p b P (opposite_of p P)) (sum_of p b N (opposite_of p N)) (point_at nowhere)
      (sum_alike p less b P N (opposite_of p P) (opposite_of p N) h.alike (opposite_alike P N h.alike))
      (shape_inverse h.shape h.on)
