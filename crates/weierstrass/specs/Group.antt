-- Points of the curve y^2 = x^3 - 3x + b modulo p, and what it means that they are a group, with sums by chords and
-- tangents (SEC 1
-- section 2.2.1).
use Rattle.std.specs.Prelude.{◌≡◌, ℕ, zero, suc, ◌+◌, ◌*◌, ◌^◌, ◌%◌, ◌<◌, ◌⊎◌}
use Rattle.residues.specs.Modulo.{plus, minus, times}
use Rattle.weierstrass.specs.Weierstrass.{Point, infinity, sum_of, multiple_of}

-- a has an inverse modulo p
pub record IsUnit (p a : ℕ) : Type 0 where
  pub inverse : ℕ
  pub is_inverse : (a * inverse) % p ≡ 1 % p

-- each number but 0 has an inverse modulo p
pub record IsField (p : ℕ) : Type 0 where
  pub above : 2 < p
  pub unit_or_zero : (a : ℕ) → IsUnit p a ⊎ (a % p ≡ 0 % p)

-- x^3 - 3x + b, as the tests of keys have it
unfoldable pub cubic_at : (p b x : ℕ) → ℕ
cubic_at p b x = plus p (minus p (times p x (times p x x)) (times p 3 x)) b

-- the curve is over a field, and has no point of order 2
pub record IsCurve (p b : ℕ) : Type 0 where
  pub field : IsField p
  pub no_root : (x : ℕ) → cubic_at p b x % p ≡ 0 % p → ⊥

-- P is l times Q, coordinate by coordinate
pub record IsTimes (p l : ℕ) (P Q : Point) : Type 0 where
  pub x : P.x % p ≡ (l * Q.x) % p
  pub y : P.y % p ≡ (l * Q.y) % p
  pub z : P.z % p ≡ (l * Q.z) % p

-- P and Q are one point
pub record Alike (p : ℕ) (P Q : Point) : Type 0 where
  pub factor : ℕ
  pub unit : IsUnit p factor
  pub is_times : IsTimes p factor P Q

-- the two kinds of points: that at infinity, and those with an x and a y
pub data Shape : Type 0 where
  nowhere : Shape
  spot : ℕ → ℕ → Shape

abbrev pub spot_point : ℕ → ℕ → Point
spot_point x y = record { x = x; y = y; z = 1 }

abbrev pub point_at : Shape → Point
point_at nowhere = record { x = 0; y = 1; z = 0 }
point_at (spot x y) = spot_point x y

-- y^2 = x^3 - 3x + b
abbrev pub IsOn : (p b : ℕ) → Shape → Type 0
IsOn p b nowhere = Unit {0}
IsOn p b (spot x y) = (y * y) % p ≡ cubic_at p b x % p

-- P is a point of the curve, in projective coordinates
pub record IsPoint (p b : ℕ) (P : Point) : Type 0 where
  pub shape : Shape
  pub on : IsOn p b shape
  pub alike : Alike p P (point_at shape)

-- the point with the other y
unfoldable pub opposite_of : ℕ → Point → Point
opposite_of p P = record { x = P.x; y = minus p 0 P.y; z = P.z }

-- P added n times
unfoldable pub times_point : (p b : ℕ) → ℕ → Point → Point
times_point p b zero P = infinity
times_point p b (suc n) P = sum_of p b (times_point p b n P) P

-- the third point on the line of slope l through (x1, y1) and a point of x2, with the other y
abbrev pub third_x : (p l x1 x2 : ℕ) → ℕ
third_x p l x1 x2 = minus p (minus p (times p l l) x1) x2

abbrev pub third_y : (p l x1 y1 x2 : ℕ) → ℕ
third_y p l x1 y1 x2 = minus p (times p l (minus p x1 (third_x p l x1 x2))) y1

-- n is the least number above 0 by which the multiple of P is the point at infinity
pub record HasOrder (p b n : ℕ) (P : Point) : Type 0 where
  pub nothing : Alike p (times_point p b n P) infinity
  pub least : (m : ℕ) → 0 < m → m < n → Alike p (times_point p b m P) infinity → ⊥

pub record IsGroup (p b : ℕ) : Type 0 where
  -- sums and opposites are points of the curve, without an exception, and are those of one point for one point
  pub sum_closed : (P Q : Point) → IsPoint p b P → IsPoint p b Q → IsPoint p b (sum_of p b P Q)
  pub opposite_closed : (P : Point) → IsPoint p b P → IsPoint p b (opposite_of p P)
  pub sum_respects : (P P' Q Q' : Point) → Alike p P P' → Alike p Q Q' → Alike p (sum_of p b P Q) (sum_of p b P' Q')
  pub opposite_respects : (P Q : Point) → Alike p P Q → Alike p (opposite_of p P) (opposite_of p Q)
  -- the laws
  pub associative : (P Q R : Point) → IsPoint p b P → IsPoint p b Q → IsPoint p b R
      → Alike p (sum_of p b (sum_of p b P Q) R) (sum_of p b P (sum_of p b Q R))
  pub commutative : (P Q : Point) → sum_of p b P Q ≡ sum_of p b Q P
  pub neutral_right : (P : Point) → IsPoint p b P → Alike p (sum_of p b P infinity) P
  pub inverse_right : (P : Point) → IsPoint p b P → Alike p (sum_of p b P (opposite_of p P)) infinity
  -- the sum by the chord through two points of different x, and by the tangent
  pub chord : (x1 y1 x2 y2 l : ℕ) → IsOn p b (spot x1 y1) → IsOn p b (spot x2 y2) → IsUnit p (minus p x2 x1)
      → times p l (minus p x2 x1) % p ≡ minus p y2 y1 % p
      → Alike p (sum_of p b (spot_point x1 y1) (spot_point x2 y2)) (spot_point (third_x p l x1 x2) (third_y p l x1 y1 x2))
  pub tangent : (x y l : ℕ) → IsOn p b (spot x y) → times p l (times p 2 y) % p ≡ minus p (times p 3 (times p x x)) 3 % p
      → Alike p (sum_of p b (spot_point x y) (spot_point x y)) (spot_point (third_x p l x x) (third_y p l x y x))
  -- multiples are repeated sums, and add
  pub multiple_same : (count n : ℕ) (P : Point) → IsPoint p b P → n < 2 ^ count
      → Alike p (multiple_of p b count n P) (times_point p b n P)
  pub multiples_add : (m n : ℕ) (P : Point) → IsPoint p b P
      → Alike p (times_point p b (m + n) P) (sum_of p b (times_point p b m P) (times_point p b n P))
