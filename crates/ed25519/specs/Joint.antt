-- Sums of a multiple of the base point and a multiple of another point.
use Rattle.std.specs.Prelude.{ℕ}
use Rattle.edwards.specs.Edwards.{Point, sum_of, neutral, AreSame}
use Rattle.edwards.specs.Group.{IsPoint, repeat_of}
use Rattle.ed25519.specs.Ed25519.{p, d, base, twice_d, order}

-- Q is m times the base point and n times P
pub record IsJoint (P : Point) (m n : ℕ) (Q : Point) : Type 0 where
  pub other : IsPoint p d P
  pub is_point : IsPoint p d Q
  pub same : AreSame p Q (sum_of p twice_d (repeat_of p twice_d m base) (repeat_of p twice_d n P))

-- the base point is a point of the curve, and its multiple by the order is the neutral point
pub record IsBase : Type 0 where
  pub is_point : IsPoint p d base
  pub order_gone : AreSame p (repeat_of p twice_d order base) neutral
