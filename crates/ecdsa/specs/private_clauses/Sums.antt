-- A point in proportion to R = [u]G + [v]Q.
use Rattle.std.specs.Prelude.{◌≡◌, ℕ, ◌+◌, ◌<◌}
use Rattle.residues.specs.Modulo.{times}
use Rattle.weierstrass.specs.Weierstrass.{Point}
use Rattle.algebra.specs.Primes.{IsPrime}
use Rattle.weierstrass.specs.Group.{IsCurve, IsPoint, Alike}
use Rattle.ecdsa.specs.Ecdsa.{sum_for}

-- R is the point of the definition, if this is a curve and these are its points
pub record IsSumFor (p n b : ℕ) (base : Point) (size : ℕ) (key : Point) (e r s : ℕ) (R : Point) : Type 0 where
  pub alike : IsCurve p b → IsPoint p b base → IsPoint p b key → Alike p R (sum_for p n b base size key e r s)

-- r + n is below p, and (r + n) Z is X
pub record HasSecond (p n : ℕ) (R : Point) (r : ℕ) : Type 0 where
  pub below : r + n < p
  pub same : times p (r + n) R.z ≡ R.x

-- p is a prime, and P a point of the curve
pub record HasBase (p b : ℕ) (P : Point) : Type 0 where
  pub prime : IsPrime p
  pub curve : IsCurve p b
  pub point : IsPoint p b P
