-- The sum of two points is a point: the formulas are complete.
use Rattle.std.proofs.Common.{◌≡◌, ℕ, zero, suc, ◌+◌, ◌*◌, ◌%◌, ◌<◌, List, [], ◌∷◌, refl, sym, ap, ◌∙◌, ◌⊎◌, inl, inr, arith}
use Rattle.std.proofs.Math.Nat.{mod-eq_of_lt}
use Rattle.limbs.proofs.Congruences.{add_alike, mul_alike}
use Rattle.residues.specs.Modulo.{plus, minus, times}
use Rattle.weierstrass.specs.Weierstrass.{Point, triple, products, sum_of}
use Rattle.algebra.proofs.Programs.{num, nth, eval, run}
use Rattle.algebra.proofs.Symbols.{modulo, minus_back, cancel}
use Rattle.algebra.proofs.Sound.{sound, point_of}
use Rattle.weierstrass.proofs.Field.{unit_product, unit_same, unit_cancel, minus_zero, minus_same, plus_is}
use Rattle.weierstrass.proofs.Field.{times_is, plus_alike, times_alike, minus_alike}
use Rattle.weierstrass.proofs.PointLemmas.{alike_twice, AreSame, sum_same, scale, scaled_sum}
use Rattle.weierstrass.proofs.Identities.{cubic, chord, chord_squares, chord_point, chord_vanishes, chord_bounded}
use Rattle.weierstrass.proofs.Identities.{tangent, tangent_squares, tangent_point, tangent_vanishes}
use Rattle.weierstrass.proofs.Identities.{tangent_bounded, opposite, opposite_squares, opposite_point}
use Rattle.weierstrass.proofs.Identities.{opposite_vanishes, opposite_bounded, ratio, ratio_squares, ratio_point}
use Rattle.weierstrass.proofs.Identities.{ratio_vanishes, ratio_bounded}
use Rattle.weierstrass.specs.Group.{Alike, IsCurve, IsOn, IsTimes, IsUnit, cubic_at, spot, spot_point}

times_comm : (p a b : ℕ) → times p a b ≡ times p b a
unfolding times
times_comm p a b = ap (λ z. z % p) (let e : a * b ≡ b * a = omega arith in e)

plus_comm : (p a b : ℕ) → plus p a b ≡ plus p b a
unfolding plus
plus_comm p a b = ap (λ z. z % p) (let e : a + b ≡ b + a = omega arith in e)

-- a sum, from its products
from_products : (p b xx yy zz xy xz yz : ℕ) → Point
from_products p b xx yy zz xy xz yz =
    products p xy yz yy (triple p (minus p xz (times p b zz)))
    (triple p (minus p (minus p (times p b xz) xx) (triple p zz))) (triple p (minus p xx zz))

from_same : (p b xx yy zz xy xz yz xx' yy' zz' xy' xz' yz' : ℕ) → xx ≡ xx' → yy ≡ yy' → zz ≡ zz' → xy ≡ xy' → xz ≡ xz'
    → yz ≡ yz'
    → from_products p b xx yy zz xy xz yz ≡ from_products p b xx' yy' zz' xy' xz' yz'
from_same p b xx yy zz xy xz yz xx' yy' zz' xy' xz' yz' e1 e2 e3 e4 e5 e6 = cc

pub sum_turned : (p b : ℕ) (P Q : Point) → sum_of p b P Q ≡ sum_of p b Q P
unfolding sum_of from_products
sum_turned p b P Q =
    from_same p b (times p P.x Q.x) (times p P.y Q.y) (times p P.z Q.z) (plus p (times p P.x Q.y) (times p Q.x P.y))
    (plus p (times p P.x Q.z) (times p Q.x P.z))
    (plus p (times p P.y Q.z) (times p Q.y P.z)) (times p Q.x P.x) (times p Q.y P.y) (times p Q.z P.z)
    (plus p (times p Q.x P.y) (times p P.x Q.y))
    (plus p (times p Q.x P.z) (times p P.x Q.z)) (plus p (times p Q.y P.z) (times p P.y Q.z))
    (times_comm p P.x Q.x) (times_comm p P.y Q.y) (times_comm p P.z Q.z) (plus_comm p (times p P.x Q.y) (times p Q.x P.y))
    (plus_comm p (times p P.x Q.z) (times p Q.x P.z)) (plus_comm p (times p P.y Q.z) (times p Q.y P.z))

same_scaled : (p l : ℕ) (P Q : Point) → IsTimes p l P Q → AreSame p P (scale p l Q)
unfolding scale
same_scaled p l P Q h = record {
  x = h.x ∙ sym (times_is p l Q.x);
  y = h.y ∙ sym (times_is p l Q.y);
  z = h.z ∙ sym (times_is p l Q.z);
}

pub same_self : (p : ℕ) (P : Point) → AreSame p P P
same_self p P = record { x = refl; y = refl; z = refl }

pub sum_left : (p : ℕ) → 0 < p → (b : ℕ) (P P' Q : Point) → Alike p P P' → Alike p (sum_of p b P Q) (sum_of p b P' Q)
sum_left p pos b P P' Q a =
    let s : AreSame p (sum_of p b P Q) (sum_of p b (scale p a.factor P') Q) =
    sum_same p b P (scale p a.factor P') Q Q (same_scaled p a.factor P P' a.is_times) (same_self p Q) in
    let t : IsTimes p (a.factor * a.factor) (sum_of p b (scale p a.factor P') Q) (sum_of p b P' Q) =
    scaled_sum p pos b a.factor P' Q in
    record {
      factor = a.factor * a.factor;
      unit = unit_product p a.factor a.factor a.unit a.unit;
      is_times = record { x = s.x ∙ t.x; y = s.y ∙ t.y; z = s.z ∙ t.z };
    }

-- sums do not see the proportion
pub sum_alike : (p : ℕ) → 0 < p → (b : ℕ) (P P' Q Q' : Point) → Alike p P P' → Alike p Q Q'
    → Alike p (sum_of p b P Q) (sum_of p b P' Q')
sum_alike p pos b P P' Q Q' h k =
    let second : Alike p (sum_of p b Q P') (sum_of p b Q' P') = sum_left p pos b Q Q' P' k in
    alike_twice p (sum_of p b P Q) (sum_of p b P' Q) (sum_of p b P' Q') (sum_left p pos b P P' Q h)
    (rw (sum_turned p b P' Q, sum_turned p b P' Q') second)

-- the numerator of the cubic at n / d
unfoldable pub ratio_at : (p b n d : ℕ) → ℕ
ratio_at p b n d = plus p (minus p (times p (times p n n) n) (times p 3 (times p n (times p d d))))
    (times p b (times p d (times p d d)))

pub zero_times : (p a e : ℕ) → e % p ≡ 0 % p → times p a e % p ≡ 0 % p
zero_times p a e h = times_is p a e ∙ mul_alike p a a e 0 refl h ∙ ap (λ z. z % p) (let k : a * 0 ≡ 0 = omega arith in k)

pub times_zero : (p a e : ℕ) → e % p ≡ 0 % p → times p e a % p ≡ 0 % p
times_zero p a e h = times_is p e a ∙ mul_alike p e 0 a a h refl ∙ ap (λ z. z % p) (let k : 0 * a ≡ 0 = omega arith in k)

module _ (p b : ℕ) (curve : IsCurve p b) where
  pub above : 2 < p
  above = curve.field.above

  pub pos : 0 < p
  pos = let h : 2 < p = above in omega arith

  pub more : 1 < p
  more = let h : 2 < p = above in omega arith

  zero_sum : (n a e g c : ℕ) → minus p n (plus p (times p a e) (times p g c)) % p ≡ 0 % p → e % p ≡ 0 % p
      → g % p ≡ 0 % p → n % p ≡ 0 % p
  zero_sum n a e g c h he hg =
      minus_zero p pos n (plus p (times p a e) (times p g c)) h
      ∙ plus_is p (times p a e) (times p g c) ∙ add_alike p (times p a e) 0 (times p g c) 0 (zero_times p a e he)
      (times_zero p c g hg)

  pub zero_difference : (n a e g c : ℕ) → minus p n (minus p (times p a e) (times p g c)) % p ≡ 0 % p → e % p ≡ 0 % p
      → g % p ≡ 0 % p → n % p ≡ 0 % p
  zero_difference n a e g c h he hg =
      minus_zero p pos n (minus p (times p a e) (times p g c)) h
      ∙ minus_same p pos (times p a e) (times p g c) (zero_times p a e he ∙ sym (times_zero p c g hg))

  pub inverse_zero : (d : ℕ) (u : IsUnit p d) → minus p (times p d u.inverse) 1 % p ≡ 0 % p
  inverse_zero d u = minus_same p pos (times p d u.inverse) 1 (times_is p d u.inverse ∙ u.is_inverse)

  -- the cubic has no root n / d
  pub no_ratio : (n d : ℕ) → IsUnit p d → ratio_at p b n d % p ≡ 0 % p → ⊥
  unfolding point_of nth run eval modulo ratio_at cubic_at
  no_ratio n d u h =
      let i = u.inverse in
      let r = times p n i in
      curve.no_root r
      (zero_sum (cubic_at p b r) (times p i (times p i i)) (ratio_at p b n d) (minus p (times p d i) 1)
      (minus p (times p 3 (times p r (plus p (times p d i) 1)))
      (times p b (plus p (plus p (times p (times p d i) (times p d i)) (times p d i)) 1)))
      (sound 0 ratio_squares ratio 1 ratio_point ratio_vanishes ratio_bounded p pos (n ∷ d ∷ i ∷ b ∷ []) refl (λ _. 0)
      (λ j e. absurd (omega arith)) 0 (omega arith))
      h (inverse_zero d u))

  pub cubic_same : (x x' : ℕ) → x % p ≡ x' % p → cubic_at p b x % p ≡ cubic_at p b x' % p
  unfolding cubic_at
  cubic_same x x' e =
      plus_alike p (minus p (times p x (times p x x)) (times p 3 x)) (minus p (times p x' (times p x' x')) (times p 3 x')) b b
      (minus_alike p (times p x (times p x x)) (times p x' (times p x' x')) (times p 3 x) (times p 3 x')
      (times_alike p x x' (times p x x) (times p x' x') e (times_alike p x x' x x' e e)) (times_alike p 3 3 x x' refl e))
      refl

  -- no point has order 2
  pub y_unit : (x y : ℕ) → IsOn p b (spot x y) → IsUnit p y
  y_unit x y on = go (curve.field.unit_or_zero y)
    where
      go : IsUnit p y ⊎ (y % p ≡ 0 % p) → IsUnit p y
      go (inl u) = u
      go (inr e) = absurd (curve.no_root x (sym on ∙ mul_alike p y 0 y y e refl
          ∙ ap (λ z. z % p) (let k : 0 * y ≡ 0 = omega arith in k)))

  pub two_unit : IsUnit p 2
  two_unit = go (curve.field.unit_or_zero 2)
    where
      go : IsUnit p 2 ⊎ (2 % p ≡ 0 % p) → IsUnit p 2
      go (inl u) = u
      go (inr e) =
          let two : 2 % p ≡ 2 = mod-eq_of_lt above in
          let none : 0 % p ≡ 0 = mod-eq_of_lt pos in
          absurd (omega arith)

  pub one_root : (x y : ℕ) → IsOn p b (spot x y) → (j : ℕ) → j < 1
      → (y * y) % p ≡ eval (modulo p) (x ∷ b ∷ []) (nth (num 0) (cubic 0 1 ∷ []) j) % p
  unfolding nth eval modulo cubic_at
  one_root x y on zero l = on
  one_root x y on (suc j) l = absurd (omega arith)

  -- the numbers of a list, from 0 on
  unfoldable pub roots : List ℕ → ℕ → ℕ
  roots ys k = nth 0 ys k

  pub two_roots : (x1 y1 x2 y2 : ℕ) → IsOn p b (spot x1 y1) → IsOn p b (spot x2 y2) → (j : ℕ) → j < 2
      → (roots (y1 ∷ y2 ∷ []) j * roots (y1 ∷ y2 ∷ []) j) % p ≡ eval (modulo p) (x2 ∷ x1 ∷ b ∷ [])
      (nth (num 0) (cubic 1 2 ∷ cubic 0 2 ∷ []) j) % p
  unfolding nth eval modulo cubic_at roots
  two_roots x1 y1 x2 y2 on1 on2 zero l = on1
  two_roots x1 y1 x2 y2 on1 on2 (suc zero) l = on2
  two_roots x1 y1 x2 y2 on1 on2 (suc (suc j)) l = absurd (omega arith)

  pub three_roots : (x1 y1 x2 y2 x3 y3 : ℕ) → IsOn p b (spot x1 y1) → IsOn p b (spot x2 y2) → IsOn p b (spot x3 y3)
      → (j : ℕ) → j < 3
      → (roots (y1 ∷ y2 ∷ y3 ∷ []) j * roots (y1 ∷ y2 ∷ y3 ∷ []) j) % p
      ≡ eval (modulo p) (x2 ∷ x3 ∷ x1 ∷ b ∷ []) (nth (num 0) (cubic 2 3 ∷ cubic 0 3 ∷ cubic 1 3 ∷ []) j) % p
  unfolding nth eval modulo cubic_at roots
  three_roots x1 y1 x2 y2 x3 y3 on1 on2 on3 zero l = on1
  three_roots x1 y1 x2 y2 x3 y3 on1 on2 on3 (suc zero) l = on2
  three_roots x1 y1 x2 y2 x3 y3 on1 on2 on3 (suc (suc zero)) l = on3
  three_roots x1 y1 x2 y2 x3 y3 on1 on2 on3 (suc (suc (suc j))) l = absurd (omega arith)

  -- the sum of a point and itself has z = (2 y)^3
  pub double_unit : (x y : ℕ) → IsOn p b (spot x y) → IsUnit p (sum_of p b (spot_point x y) (spot_point x y)).z
  unfolding point_of nth run eval modulo sum_of triple products cubic_at
  double_unit x y on =
      let z = (sum_of p b (spot_point x y) (spot_point x y)).z in
      let e : minus p z (times p 8 (times p (times p y y) y)) % p ≡ 0 % p =
      sound 1 tangent_squares tangent 1 tangent_point tangent_vanishes tangent_bounded p pos (x ∷ b ∷ []) refl (λ _. y)
      (one_root x y on) 0 (omega arith) in
      let u : IsUnit p (8 * (y * y * y)) =
      unit_same p (2 * 2 * 2 * (y * y * y)) (8 * (y * y * y))
      (ap (λ n. n % p) (let k : 2 * 2 * 2 * (y * y * y) ≡ 8 * (y * y * y) = omega arith in k))
      (unit_product p (2 * 2 * 2) (y * y * y) (unit_product p (2 * 2) 2 (unit_product p 2 2 two_unit two_unit) two_unit)
      (unit_product p (y * y) y (unit_product p y y (y_unit x y on) (y_unit x y on)) (y_unit x y on))) in
      unit_same p (8 * (y * y * y)) z
      (sym (minus_zero p pos z (times p 8 (times p (times p y y) y)) e ∙ times_is p 8 (times p (times p y y) y)
      ∙ mul_alike p 8 8 (times p (times p y y) y) (y * y * y) refl
      (times_is p (times p y y) y ∙ mul_alike p (times p y y) (y * y) y y (times_is p y y) refl)))
      u

  module _ (x y : ℕ) (on : IsOn p b (spot x y)) where
    unfoldable pub opposite_sum : Point
    opposite_sum = sum_of p b (spot_point x y) (spot_point x (minus p 0 y))

    opposite_zero : (k : ℕ) → k < 3 → nth 0 (run (modulo p) (y ∷ x ∷ b ∷ []) opposite) k % p ≡ 0 % p
    unfolding point_of
    opposite_zero k l = sound 1 opposite_squares opposite 3 opposite_point opposite_vanishes opposite_bounded p pos
        (x ∷ b ∷ []) refl (λ _. y)
        (one_root x y on) k l

    pub opposite_x : opposite_sum.x % p ≡ 0 % p
    unfolding nth run eval modulo sum_of triple products opposite_sum
    opposite_x = minus_zero p pos opposite_sum.x 0 (opposite_zero 0 (omega arith))

    pub opposite_z : opposite_sum.z % p ≡ 0 % p
    unfolding nth run eval modulo sum_of triple products opposite_sum
    opposite_z = minus_zero p pos opposite_sum.z 0 (opposite_zero 1 (omega arith))

    -- its y is that of the double
    pub opposite_y : IsUnit p opposite_sum.y
    unfolding nth run eval modulo sum_of triple products opposite_sum ratio_at
    opposite_y = go (curve.field.unit_or_zero opposite_sum.y)
      where
        go : IsUnit p opposite_sum.y ⊎ (opposite_sum.y % p ≡ 0 % p) → IsUnit p opposite_sum.y
        go (inl u) = u
        go (inr e) =
            let D = sum_of p b (spot_point x y) (spot_point x y) in
            let Y = opposite_sum.y in
            let h : times p (times p Y Y) D.z % p ≡ ratio_at p b D.x D.z % p =
            minus_zero p pos (times p (times p Y Y) D.z) (ratio_at p b D.x D.z) (opposite_zero 2 (omega arith)) in
            absurd (no_ratio D.x D.z (double_unit x y on) (sym h ∙ times_zero p D.z (times p Y Y) (times_zero p Y Y e)))

  -- z of the sum of points of different x
  pub chord_unit : (x1 y1 x2 y2 : ℕ) → IsOn p b (spot x1 y1) → IsOn p b (spot x2 y2) → IsUnit p (minus p x2 x1)
      → IsUnit p (sum_of p b (spot_point x1 y1) (spot_point x2 y2)).z
  unfolding nth run eval modulo sum_of triple products ratio_at point_of roots
  chord_unit x1 y1 x2 y2 on1 on2 u = go (curve.field.unit_or_zero (sum_of p b (spot_point x1 y1) (spot_point x2 y2)).z)
    where
      go : IsUnit p (sum_of p b (spot_point x1 y1) (spot_point x2 y2)).z
          ⊎ ((sum_of p b (spot_point x1 y1) (spot_point x2 y2)).z % p ≡ 0 % p)
          → IsUnit p (sum_of p b (spot_point x1 y1) (spot_point x2 y2)).z
      go (inl v) = v
      go (inr e) =
          let Z = (sum_of p b (spot_point x1 y1) (spot_point x2 y2)).z in
          let r = minus p x2 x1 in
          let d = times p r r in
          let n = minus p (times p (plus p y1 y2) (plus p y1 y2)) (times p (plus p x1 x2) d) in
          let h : times p Z Z % p ≡ ratio_at p b n d % p =
          minus_zero p pos (times p Z Z) (ratio_at p b n d)
          (sound 2 chord_squares chord 1 chord_point chord_vanishes chord_bounded p pos (x2 ∷ x1 ∷ b ∷ []) refl
          (roots (y1 ∷ y2 ∷ []))
          (two_roots x1 y1 x2 y2 on1 on2) 0 (omega arith)) in
          absurd (no_ratio n d (unit_same p (r * r) d (sym (times_is p r r)) (unit_product p r r u u)) (sym h
          ∙ times_zero p Z Z e))

  -- the sum is at infinity or not
  abbrev pub Complete : Point → Type 0
  Complete S = IsUnit p S.z ⊎ (record { x : S.x % p ≡ 0 % p; z : S.z % p ≡ 0 % p; y : IsUnit p S.y })

  same_complete : (S T : Point) → AreSame p S T → Complete T → Complete S
  same_complete S T s (inl u) = inl (unit_same p T.z S.z (sym s.z) u)
  same_complete S T s (inr c) = inr (record { x = s.x ∙ c.x; z = s.z ∙ c.z; y = unit_same p T.y S.y (sym s.y) c.y })

  equal_x : (x1 y1 x2 y2 : ℕ) → IsOn p b (spot x1 y1) → IsOn p b (spot x2 y2) → x1 % p ≡ x2 % p
      → Complete (sum_of p b (spot_point x1 y1) (spot_point x2 y2))
  unfolding opposite_sum
  equal_x x1 y1 x2 y2 on1 on2 e = go (curve.field.unit_or_zero (y1 + y2))
    where
      squares_same : (y1 * y1) % p ≡ (y2 * y2) % p
      squares_same = on1 ∙ cubic_same x1 x2 e ∙ sym on2

      go : IsUnit p (y1 + y2) ⊎ ((y1 + y2) % p ≡ 0 % p) → Complete (sum_of p b (spot_point x1 y1) (spot_point x2 y2))
      go (inl u) =
          let f : (y1 + y2) * y1 ≡ y1 * y1 + y2 * y1 = omega arith in
          let g : y2 * y2 + y2 * y1 ≡ (y1 + y2) * y2 = omega arith in
          let same : y1 % p ≡ y2 % p =
          unit_cancel p (y1 + y2) y1 y2 u (ap (λ n. n % p) f
          ∙ add_alike p (y1 * y1) (y2 * y2) (y2 * y1) (y2 * y1) squares_same refl ∙ ap (λ n. n % p) g) in
          same_complete (sum_of p b (spot_point x1 y1) (spot_point x2 y2)) (sum_of p b (spot_point x1 y1) (spot_point x1 y1))
          (sum_same p b (spot_point x1 y1) (spot_point x1 y1) (spot_point x2 y2) (spot_point x1 y1)
          (same_self p (spot_point x1 y1))
          (record { x = sym e; y = sym same; z = refl }))
          (inl (double_unit x1 y1 on1))
      go (inr h) =
          let opp : y2 % p ≡ minus p 0 y1 % p =
          cancel p pos y2 (minus p 0 y1) y1 (ap (λ n. n % p) (let k : y2 + y1 ≡ y1 + y2 = omega arith in k) ∙ h
          ∙ sym (minus_back p pos 0 y1)) in
          same_complete (sum_of p b (spot_point x1 y1) (spot_point x2 y2))
          (sum_of p b (spot_point x1 y1) (spot_point x1 (minus p 0 y1)))
          (sum_same p b (spot_point x1 y1) (spot_point x1 y1) (spot_point x2 y2) (spot_point x1 (minus p 0 y1))
          (same_self p (spot_point x1 y1))
          (record { x = sym e; y = opp; z = refl }))
          (inr (record { x = opposite_x x1 y1 on1; z = opposite_z x1 y1 on1; y = opposite_y x1 y1 on1 }))

  pub complete : (x1 y1 x2 y2 : ℕ) → IsOn p b (spot x1 y1) → IsOn p b (spot x2 y2)
      → Complete (sum_of p b (spot_point x1 y1) (spot_point x2 y2))
  complete x1 y1 x2 y2 on1 on2 = go (curve.field.unit_or_zero (minus p x2 x1))
    where
      go : IsUnit p (minus p x2 x1) ⊎ (minus p x2 x1 % p ≡ 0 % p) → Complete (sum_of p b (spot_point x1 y1) (spot_point x2 y2))
      go (inl u) = inl (chord_unit x1 y1 x2 y2 on1 on2 u)
      go (inr e) = equal_x x1 y1 x2 y2 on1 on2 (sym (minus_zero p pos x2 x1 e))
