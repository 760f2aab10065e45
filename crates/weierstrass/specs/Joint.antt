-- Sums of multiples of two points.
use Rattle.std.specs.Prelude.{ℕ, ◌*◌, List, length}
use Rattle.residues.specs.Bytes.{little_endian}
use Rattle.weierstrass.specs.Weierstrass.{Point, sum_of, multiple_of}
use Rattle.weierstrass.specs.Group.{IsCurve, IsPoint, Alike}

-- R is [u]P + [v]Q for numbers in bytes, the least significant first, if this is a curve and these are its points
pub record IsJoint (p b : ℕ) (u : List ℕ) (P : Point) (v : List ℕ) (Q R : Point) : Type 0 where
  pub alike : IsCurve p b → IsPoint p b P → IsPoint p b Q
      → Alike p R (sum_of p b (multiple_of p b (8 * length u) (little_endian u) P)
      (multiple_of p b (8 * length v) (little_endian v) Q))
