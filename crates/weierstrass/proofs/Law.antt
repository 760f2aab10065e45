-- The points of a curve are a commutative group.
use Rattle.std.proofs.Common.{◌≡◌, ℕ, ◌*◌, ◌%◌, ◌<◌, [], ◌∷◌, refl, sym, ap, ◌∙◌, inl, inr, arith}
use Rattle.limbs.proofs.Congruences.{mul_alike}
use Rattle.residues.specs.Modulo.{plus, minus, times}
use Rattle.weierstrass.specs.Weierstrass.{Point, triple, products, sum_of}
use Rattle.algebra.proofs.Programs.{nth, eval, run}
use Rattle.algebra.proofs.Symbols.{modulo}
use Rattle.algebra.proofs.Sound.{sound, sound_by_grid, point_of}
use Rattle.weierstrass.proofs.Field.{unit_one, unit_product, unit_same, unit_inverse, unit_zero, minus_zero, times_is}
use Rattle.weierstrass.proofs.PointLemmas.{alike_self, alike_turned, alike_twice}
use Rattle.weierstrass.proofs.Identities.{closed, closed_squares, closed_point, closed_vanishes, closed_bounded}
use Rattle.weierstrass.proofs.Identities.{neutral, neutral_squares, neutral_point, neutral_vanishes}
use Rattle.weierstrass.proofs.Identities.{neutral_bounded, none, none_squares, none_point, none_vanishes}
use Rattle.weierstrass.proofs.Identities.{none_bounded, divided, divided_squares, divided_point, divided_vanishes}
use Rattle.weierstrass.proofs.Identities.{divided_bounded}
use Rattle.weierstrass.proofs.Grouped.{three, grouped, is_short, point, point_length, vanishes, is_bounded}
use Rattle.weierstrass.proofs.Sums.{sum_turned, sum_left, sum_alike, ratio_at, pos, more, zero_difference}
use Rattle.weierstrass.proofs.Sums.{inverse_zero, roots, two_roots, three_roots, y_unit, Complete, complete}
use Rattle.weierstrass.specs.Group.{Alike, IsCurve, IsOn, IsPoint, IsUnit, Shape, cubic_at, nowhere, point_at}
use Rattle.weierstrass.specs.Group.{spot, spot_point}

pub times_last : (p l x i : ℕ) → (l * i) % p ≡ 1 % p → x % p ≡ (l * times p x i) % p
times_last p l x i u =
    ap (λ n. n % p) (let e : x ≡ 1 * x = omega arith in e) ∙ mul_alike p 1 (l * i) x x (sym u) refl
    ∙ ap (λ n. n % p) (let e : l * i * x ≡ l * (x * i) = omega arith in e) ∙ mul_alike p l l (x * i) (times p x i) refl
    (sym (times_is p x i))

pub is_nothing : (p l x : ℕ) → x % p ≡ 0 % p → x % p ≡ (l * 0) % p
is_nothing p l x e = e ∙ ap (λ n. n % p) (let k : 0 ≡ l * 0 = omega arith in k)

pub is_whole : (p l : ℕ) → l % p ≡ (l * 1) % p
is_whole p l = ap (λ n. n % p) (let k : l ≡ l * 1 = omega arith in k)

-- a unit is no 0
pub unit_against_zero : (p : ℕ) → 1 < p → (a c d e : ℕ) → IsUnit p a → IsUnit p c → d % p ≡ 0 % p
    → (a * c) % p ≡ (d * e) % p → ⊥
unit_against_zero p l a c d e u v z h =
    unit_zero p (a * c) l (unit_product p a c u v) (h ∙ mul_alike p d 0 e e z refl
    ∙ ap (λ n. n % p) (let k : 0 * e ≡ 0 = omega arith in k))

pub times_whole : (p l t : ℕ) → t % p ≡ (l * 1) % p → IsUnit p l → IsUnit p t
times_whole p l t e u = unit_same p l t (sym (e ∙ ap (λ n. n % p) (let k : l * 1 ≡ l = omega arith in k))) u

pub times_nothing : (p l t : ℕ) → t % p ≡ (l * 0) % p → t % p ≡ 0 % p
times_nothing p l t e = e ∙ ap (λ n. n % p) (let k : l * 0 ≡ 0 = omega arith in k)

-- t / u is z / w
pub cross : (p t u z w i : ℕ) → (w * i) % p ≡ 1 % p → (t * w) % p ≡ (z * u) % p → t % p ≡ (z * i * u) % p
cross p t u z w i inv e =
    ap (λ n. n % p) (let k : t ≡ t * 1 = omega arith in k) ∙ mul_alike p t t 1 (w * i) refl (sym inv)
    ∙ ap (λ n. n % p) (let k : t * (w * i) ≡ t * w * i = omega arith in k) ∙ mul_alike p (t * w) (z * u) i i e refl
    ∙ ap (λ n. n % p) (let k : z * u * i ≡ z * i * u = omega arith in k)

module _ (p b : ℕ) (curve : IsCurve p b) where
  positive : 0 < p
  positive = pos p b curve

  -- the sum lies on the curve
  pub on_curve : (x1 y1 x2 y2 : ℕ) → IsOn p b (spot x1 y1) → IsOn p b (spot x2 y2) → (S : Point)
      → S ≡ sum_of p b (spot_point x1 y1) (spot_point x2 y2)
      → minus p (times p (times p S.y S.y) S.z) (ratio_at p b S.x S.z) % p ≡ 0 % p
  unfolding point_of nth run eval modulo sum_of triple products ratio_at roots
  on_curve x1 y1 x2 y2 on1 on2 S e =
      rw e (sound 2 closed_squares closed 1 closed_point closed_vanishes closed_bounded p positive
      (x2 ∷ x1 ∷ b ∷ []) refl (roots p b curve (y1 ∷ y2 ∷ []))
      (two_roots p b curve x1 y1 x2 y2 on1 on2) 0 (omega arith))

  -- x / z and y / z
  pub divided_on : (X Y Z : ℕ) (u : IsUnit p Z) → minus p (times p (times p Y Y) Z) (ratio_at p b X Z) % p ≡ 0 % p
      → IsOn p b (spot (times p X u.inverse) (times p Y u.inverse))
  unfolding point_of nth run eval modulo ratio_at cubic_at
  divided_on X Y Z u h =
      let i = u.inverse in
      let x = times p X i in
      let y = times p Y i in
      let c = minus p (plus p (times p y y) (times p 3 (times p x (plus p (times p Z i) 1))))
      (times p b (plus p (plus p (times p (times p Z i) (times p Z i)) (times p Z i)) 1)) in
      let e : minus p (times p y y) (cubic_at p b x) % p ≡ 0 % p =
      zero_difference p b curve (minus p (times p y y) (cubic_at p b x)) (times p i (times p i i))
      (minus p (times p (times p Y Y) Z) (ratio_at p b X Z)) (minus p (times p Z i) 1) c
      (sound 0 divided_squares divided 1 divided_point divided_vanishes divided_bounded p positive
      (X ∷ Y ∷ Z ∷ i ∷ b ∷ []) refl (λ _. 0)
      (λ j k. absurd (omega arith)) 0 (omega arith))
      h (inverse_zero p b curve Z u) in
      sym (times_is p y y) ∙ minus_zero p positive (times p y y) (cubic_at p b x) e

  -- the sum of two points of the plane
  spots : (x1 y1 x2 y2 : ℕ) → IsOn p b (spot x1 y1) → IsOn p b (spot x2 y2)
      → IsPoint p b (sum_of p b (spot_point x1 y1) (spot_point x2 y2))
  spots x1 y1 x2 y2 on1 on2 = go (sum_of p b (spot_point x1 y1) (spot_point x2 y2)) refl
      (complete p b curve x1 y1 x2 y2 on1 on2)
    where
      go : (S : Point) → S ≡ sum_of p b (spot_point x1 y1) (spot_point x2 y2) → Complete p b curve S → IsPoint p b S
      go S e (inl u) = record {
        shape = spot (times p S.x u.inverse) (times p S.y u.inverse);
        on = divided_on S.x S.y S.z u (on_curve x1 y1 x2 y2 on1 on2 S e);
        alike = record {
          factor = S.z;
          unit = u;
          is_times = record {
            x = times_last p S.z S.x u.inverse u.is_inverse;
            y = times_last p S.z S.y u.inverse u.is_inverse;
            z = is_whole p S.z;
          };
        };
      }
      go S e (inr c) = record {
        shape = nowhere;
        on = tt;
        alike = record {
          factor = S.y;
          unit = c.y;
          is_times = record { x = is_nothing p S.y S.x c.x; y = is_whole p S.y; z = is_nothing p S.y S.z c.z };
        };
      }

  none_zero : (k : ℕ) → k < 3 → nth 0 (run (modulo p) (b ∷ []) none) k % p ≡ 0 % p
  unfolding point_of
  none_zero k l = sound 0 none_squares none 3 none_point none_vanishes none_bounded p positive (b ∷ []) refl (λ _. 0)
      (λ j e. absurd (omega arith)) k l

  nowhere_twice : Alike p (sum_of p b (point_at nowhere) (point_at nowhere)) (point_at nowhere)
  unfolding nth run eval modulo sum_of triple products
  nowhere_twice =
      let S = sum_of p b (point_at nowhere) (point_at nowhere) in
      record {
        factor = 1;
        unit = unit_one p;
        is_times = record {
          x = minus_zero p positive S.x 0 (none_zero 2 (omega arith));
          y = minus_zero p positive S.y 1 (none_zero 1 (omega arith));
          z = minus_zero p positive S.z 0 (none_zero 0 (omega arith));
        };
      }

  spot_neutral : (x y : ℕ) → IsOn p b (spot x y) → Alike p (sum_of p b (spot_point x y) (point_at nowhere)) (spot_point x y)
  unfolding nth run eval modulo sum_of triple products point_of
  spot_neutral x y on =
      let S = sum_of p b (spot_point x y) (point_at nowhere) in
      let zeros = λ (k : ℕ) (l : k < 3). sound 0 neutral_squares neutral 3 neutral_point neutral_vanishes
      neutral_bounded p positive (x ∷ y ∷ b ∷ []) refl
      (λ _. 0) (λ j e. absurd (omega arith)) k l in
      record {
        factor = y;
        unit = y_unit p b curve x y on;
        is_times = record {
          x = minus_zero p positive S.x (times p y x) (zeros 2 (omega arith)) ∙ times_is p y x;
          y = minus_zero p positive S.y (times p y y) (zeros 1 (omega arith)) ∙ times_is p y y;
          z = minus_zero p positive S.z y (zeros 0 (omega arith)) ∙ is_whole p y;
        };
      }

  shape_neutral : (s : Shape) → IsOn p b s → Alike p (sum_of p b (point_at s) (point_at nowhere)) (point_at s)
  shape_neutral nowhere on = nowhere_twice
  shape_neutral (spot x y) on = spot_neutral x y on

  -- the point at infinity is neutral
  pub sum_neutral : (P : Point) → IsPoint p b P → Alike p (sum_of p b P (point_at nowhere)) P
  sum_neutral P h =
      let N = point_at h.shape in
      alike_twice p (sum_of p b P (point_at nowhere)) (sum_of p b N (point_at nowhere)) P
      (sum_left p positive b P N (point_at nowhere) h.alike)
      (alike_twice p (sum_of p b N (point_at nowhere)) N P (shape_neutral h.shape h.on) (alike_turned p P N h.alike))

  pub point_alike : (P Q : Point) → Alike p P Q → IsPoint p b Q → IsPoint p b P
  point_alike P Q a h = record { shape = h.shape; on = h.on; alike = alike_twice p P Q (point_at h.shape) a h.alike }

  shapes : (s t : Shape) → IsOn p b s → IsOn p b t → IsPoint p b (sum_of p b (point_at s) (point_at t))
  shapes nowhere t on1 on2 =
      point_alike (sum_of p b (point_at nowhere) (point_at t)) (point_at t)
      (rw (sum_turned p b (point_at nowhere) (point_at t)) (shape_neutral t on2))
      (record { shape = t; on = on2; alike = alike_self p (point_at t) })
  shapes (spot x y) nowhere on1 on2 =
      point_alike (sum_of p b (spot_point x y) (point_at nowhere)) (spot_point x y) (spot_neutral x y on1)
      (record { shape = spot x y; on = on1; alike = alike_self p (spot_point x y) })
  shapes (spot x1 y1) (spot x2 y2) on1 on2 = spots x1 y1 x2 y2 on1 on2

  -- the sum of two points is a point
  pub sum_point : (P Q : Point) → IsPoint p b P → IsPoint p b Q → IsPoint p b (sum_of p b P Q)
  sum_point P Q h k =
      point_alike (sum_of p b P Q) (sum_of p b (point_at h.shape) (point_at k.shape))
      (sum_alike p positive b P (point_at h.shape) Q (point_at k.shape) h.alike k.alike) (shapes h.shape k.shape h.on k.on)

  -- points are one if x and z, y and z are in one proportion
  same_ratio : (T U : Point) → IsPoint p b T → IsPoint p b U → (T.x * U.z) % p ≡ (T.z * U.x) % p
      → (T.y * U.z) % p ≡ (T.z * U.y) % p → Alike p T U
  same_ratio T U h k ex ey = go h.shape k.shape h.alike k.alike
    where
      go : (s t : Shape) → Alike p T (point_at s) → Alike p U (point_at t) → Alike p T U
      go nowhere nowhere a c = alike_twice p T (point_at nowhere) U a (alike_turned p U (point_at nowhere) c)
      go nowhere (spot x y) a c =
          absurd (unit_against_zero p (more p b curve) T.y U.z T.z U.y (times_whole p a.factor T.y a.is_times.y a.unit)
          (times_whole p c.factor U.z c.is_times.z c.unit) (times_nothing p a.factor T.z a.is_times.z) ey)
      go (spot x y) nowhere a c =
          absurd (unit_against_zero p (more p b curve) T.z U.y U.z T.y (times_whole p a.factor T.z a.is_times.z a.unit)
          (times_whole p c.factor U.y c.is_times.y c.unit) (times_nothing p c.factor U.z c.is_times.z)
          (sym ey ∙ ap (λ n. n % p) (let e : T.y * U.z ≡ U.z * T.y = omega arith in e)))
      go (spot x y) (spot x' y') a c =
          let u : IsUnit p U.z = times_whole p c.factor U.z c.is_times.z c.unit in
          let v : IsUnit p T.z = times_whole p a.factor T.z a.is_times.z a.unit in
          record {
            factor = T.z * u.inverse;
            unit = unit_product p T.z u.inverse v (unit_inverse p U.z u);
            is_times = record {
              x = cross p T.x U.x T.z U.z u.inverse u.is_inverse ex;
              y = cross p T.y U.y T.z U.z u.inverse u.is_inverse ey;
              z = cross p T.z U.z T.z U.z u.inverse u.is_inverse refl;
            };
          }

  grouped_zero : (x1 y1 x2 y2 x3 y3 : ℕ) → IsOn p b (spot x1 y1) → IsOn p b (spot x2 y2) → IsOn p b (spot x3 y3)
      → (k : ℕ) → k < 2 → nth 0 (run (modulo p) (y3 ∷ y2 ∷ y1 ∷ x2 ∷ x3 ∷ x1 ∷ b ∷ []) grouped) k % p ≡ 0 % p
  unfolding point_of nth roots
  grouped_zero x1 y1 x2 y2 x3 y3 on1 on2 on3 k l =
      sound_by_grid 3 three grouped 2 3 13 point point_length is_short vanishes is_bounded p positive x2 (x3 ∷ x1 ∷ b ∷ []) refl
      (roots p b curve (y1 ∷ y2 ∷ y3 ∷ [])) (three_roots p b curve x1 y1 x2 y2 x3 y3 on1 on2 on3) k l

  module _ (x1 y1 x2 y2 x3 y3 : ℕ) (on1 : IsOn p b (spot x1 y1)) (on2 : IsOn p b (spot x2 y2))
      (on3 : IsOn p b (spot x3 y3)) where
    left : Point
    left = sum_of p b (sum_of p b (spot_point x1 y1) (spot_point x2 y2)) (spot_point x3 y3)

    right : Point
    right = sum_of p b (spot_point x1 y1) (sum_of p b (spot_point x2 y2) (spot_point x3 y3))

    ratio_x : times p left.x right.z % p ≡ times p left.z right.x % p
    unfolding nth run eval modulo sum_of triple products left right
    ratio_x = minus_zero p positive (times p left.x right.z) (times p left.z right.x)
        (grouped_zero x1 y1 x2 y2 x3 y3 on1 on2 on3 1 (omega arith))

    ratio_y : times p left.y right.z % p ≡ times p left.z right.y % p
    unfolding nth run eval modulo sum_of triple products left right
    ratio_y = minus_zero p positive (times p left.y right.z) (times p left.z right.y)
        (grouped_zero x1 y1 x2 y2 x3 y3 on1 on2 on3 0 (omega arith))

    is_spot : (x y : ℕ) → IsOn p b (spot x y) → IsPoint p b (spot_point x y)
    is_spot x y on = record { shape = spot x y; on = on; alike = alike_self p (spot_point x y) }

    spots_grouped : Alike p left right
    unfolding left right
    spots_grouped =
        let P = spot_point x1 y1 in
        let Q = spot_point x2 y2 in
        let R = spot_point x3 y3 in
        let hp = is_spot x1 y1 on1 in
        let hq = is_spot x2 y2 on2 in
        let hr = is_spot x3 y3 on3 in
        same_ratio left right (sum_point (sum_of p b P Q) R (sum_point P Q hp hq) hr)
        (sum_point P (sum_of p b Q R) hp (sum_point Q R hq hr))
        (sym (times_is p left.x right.z) ∙ ratio_x ∙ times_is p left.z right.x)
        (sym (times_is p left.y right.z) ∙ ratio_y ∙ times_is p left.z right.y)

  shape_point : (s : Shape) → IsOn p b s → IsPoint p b (point_at s)
  shape_point s on = record { shape = s; on = on; alike = alike_self p (point_at s) }

  -- infinity on the left
  neutral_left : (P : Point) → IsPoint p b P → Alike p (sum_of p b (point_at nowhere) P) P
  neutral_left P h = rw (sum_turned p b (point_at nowhere) P) (sum_neutral P h)

  shapes_grouped : (s t u : Shape) → IsOn p b s → IsOn p b t → IsOn p b u
      → Alike p (sum_of p b (sum_of p b (point_at s) (point_at t)) (point_at u))
      (sum_of p b (point_at s) (sum_of p b (point_at t) (point_at u)))
  unfolding left right
  shapes_grouped nowhere t u on1 on2 on3 =
      let O = point_at nowhere in
      let Q = point_at t in
      let R = point_at u in
      let hq = shape_point t on2 in
      let hr = shape_point u on3 in
      alike_twice p (sum_of p b (sum_of p b O Q) R) (sum_of p b Q R) (sum_of p b O (sum_of p b Q R))
      (sum_left p positive b (sum_of p b O Q) Q R (neutral_left Q hq))
      (alike_turned p (sum_of p b O (sum_of p b Q R)) (sum_of p b Q R) (neutral_left (sum_of p b Q R) (sum_point Q R hq hr)))
  shapes_grouped (spot x y) nowhere u on1 on2 on3 =
      let O = point_at nowhere in
      let P = spot_point x y in
      let R = point_at u in
      let hp = shape_point (spot x y) on1 in
      let hr = shape_point u on3 in
      sum_alike p positive b (sum_of p b P O) P R (sum_of p b O R) (sum_neutral P hp)
      (alike_turned p (sum_of p b O R) R (neutral_left R hr))
  shapes_grouped (spot x1 y1) (spot x2 y2) nowhere on1 on2 on3 =
      let O = point_at nowhere in
      let P = spot_point x1 y1 in
      let Q = spot_point x2 y2 in
      let hp = shape_point (spot x1 y1) on1 in
      let hq = shape_point (spot x2 y2) on2 in
      alike_twice p (sum_of p b (sum_of p b P Q) O) (sum_of p b P Q) (sum_of p b P (sum_of p b Q O))
      (sum_neutral (sum_of p b P Q) (sum_point P Q hp hq))
      (sum_alike p positive b P P Q (sum_of p b Q O) (alike_self p P) (alike_turned p (sum_of p b Q O) Q (sum_neutral Q hq)))
  shapes_grouped (spot x1 y1) (spot x2 y2) (spot x3 y3) on1 on2 on3 = spots_grouped x1 y1 x2 y2 x3 y3 on1 on2 on3

  -- sums can be grouped anew
  pub sum_grouped : (P Q R : Point) → IsPoint p b P → IsPoint p b Q → IsPoint p b R
      → Alike p (sum_of p b (sum_of p b P Q) R) (sum_of p b P (sum_of p b Q R))
  sum_grouped P Q R h k l =
      let P' = point_at h.shape in
      let Q' = point_at k.shape in
      let R' = point_at l.shape in
      alike_twice p (sum_of p b (sum_of p b P Q) R) (sum_of p b (sum_of p b P' Q') R') (sum_of p b P (sum_of p b Q R))
      (sum_alike p positive b (sum_of p b P Q) (sum_of p b P' Q') R R'
      (sum_alike p positive b P P' Q Q' h.alike k.alike) l.alike)
      (alike_twice p (sum_of p b (sum_of p b P' Q') R') (sum_of p b P' (sum_of p b Q' R')) (sum_of p b P (sum_of p b Q R))
      (shapes_grouped h.shape k.shape l.shape h.on k.on l.on)
      (alike_turned p (sum_of p b P (sum_of p b Q R)) (sum_of p b P' (sum_of p b Q' R'))
      (sum_alike p positive b P P' (sum_of p b Q R) (sum_of p b Q' R') h.alike
      (sum_alike p positive b Q Q' R R' k.alike l.alike))))
