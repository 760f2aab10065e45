-- Points of the curve y^2 = x^3 - 3x + b modulo p in homogeneous projective coordinates: x = X / Z and y = Y / Z, and
-- Z = 0 at the point at infinity. The sums are the complete formulas of J. Renes, C. Costello and L. Batina, "Complete
-- addition formulas for prime order elliptic curves" (2016), section 3.2, for a = -3.
use Rattle.std.specs.Prelude.{ℕ, zero, suc, ◌/◌, ◌%◌, ◌==◌, if◌then◌else◌}
use Rattle.residues.specs.Modulo.{plus, minus, times}

pub record Point : Type 0 where
  pub x : ℕ
  pub y : ℕ
  pub z : ℕ

-- the point at infinity
unfoldable pub infinity : Point
infinity = record { x = 0; y = 1; z = 0 }

module _ (p : ℕ) where
  infixl 60 ◌⊕◌
  infixl 60 ◌⊖◌
  infixl 70 ◌⊗◌
  abbrev ◌⊕◌ : ℕ → ℕ → ℕ
  a ⊕ b = plus p a b

  abbrev ◌⊖◌ : ℕ → ℕ → ℕ
  a ⊖ b = minus p a b

  abbrev ◌⊗◌ : ℕ → ℕ → ℕ
  a ⊗ b = times p a b

  -- 3 * a
  unfoldable pub triple : ℕ → ℕ
  triple a = a ⊕ a ⊕ a

  -- the last lines of a sum, from X1 Y2 + X2 Y1, Y1 Z2 + Y2 Z1, Y1 Y2, 3 (X1 Z2 + X2 Z1 - b Z1 Z2),
  -- 3 (b (X1 Z2 + X2 Z1) - X1 X2 - 3 Z1 Z2) and 3 X1 X2 - 3 Z1 Z2
  unfoldable pub products : (xy yz yy n w t : ℕ) → Point
  products xy yz yy n w t = record {
    x = xy ⊗ (yy ⊕ n) ⊖ yz ⊗ w;
    y = (yy ⊖ n) ⊗ (yy ⊕ n) ⊕ t ⊗ w;
    z = yz ⊗ (yy ⊖ n) ⊕ xy ⊗ t;
  }

  -- the sum of two points
  unfoldable pub sum_of : (b : ℕ) → Point → Point → Point
  sum_of b P Q =
      let xx = P.x ⊗ Q.x in
      let yy = P.y ⊗ Q.y in
      let zz = P.z ⊗ Q.z in
      let xy = P.x ⊗ Q.y ⊕ Q.x ⊗ P.y in
      let xz = P.x ⊗ Q.z ⊕ Q.x ⊗ P.z in
      let yz = P.y ⊗ Q.z ⊕ Q.y ⊗ P.z in
      let n = triple (xz ⊖ b ⊗ zz) in
      let w = triple (b ⊗ xz ⊖ xx ⊖ triple zz) in
      let t = triple (xx ⊖ zz) in
      products xy yz yy n w t

  -- the sum of a point and itself: the formulas are complete
  unfoldable pub double_of : (b : ℕ) → Point → Point
  double_of b P = sum_of b P P

  -- the double, and P more if the bit is 1
  unfoldable pub step_of : (b : ℕ) → Point → ℕ → Point → Point
  step_of b P bit Q = if bit == 1 then sum_of b (double_of b Q) P else double_of b Q

  -- from Q on, a step for each of the `count` low bits of n, the most significant first
  unfoldable pub steps_of : (b : ℕ) → Point → (count n : ℕ) → Point → Point
  steps_of b P zero n Q = Q
  steps_of b P (suc count) n Q = step_of b P (n % 2) (steps_of b P count (n / 2) Q)

  -- [n]P, for n below 2 ^ count: [0]P is the point at infinity, [2n]P is twice [n]P, and [2n + 1]P is P more
  unfoldable pub multiple_of : (b : ℕ) → (count n : ℕ) → Point → Point
  multiple_of b count n P = steps_of b P count n infinity
