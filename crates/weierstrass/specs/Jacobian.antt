-- Points in Jacobian coordinates: x = X / Z^2 and y = Y / Z^3, and Z = 0 at the point at infinity.
use Rattle.std.specs.Prelude.{◌≡◌, ℕ, ◌*◌, ◌%◌}
use Rattle.weierstrass.specs.Weierstrass.{Point}
use Rattle.weierstrass.specs.Group.{IsUnit, IsCurve, IsPoint, Alike, Shape, nowhere, spot, point_at, IsOn, times_point}

-- J is (l^2 x, l^3 y, l)
pub record IsLift (p l : ℕ) (J : Point) (x y : ℕ) : Type 0 where
  pub unit : IsUnit p l
  pub x_is : J.x % p ≡ (l * l * x) % p
  pub y_is : J.y % p ≡ (l * l * l * y) % p
  pub z_is : J.z % p ≡ l % p

-- J stands for this point
abbrev pub IsFor : (p : ℕ) → Point → Shape → Type 0
IsFor p J nowhere = J.z ≡ 0
IsFor p J (spot x y) = (l : ℕ) × IsLift p l J x y

-- J stands for P
pub record IsJacobian (p b : ℕ) (J P : Point) : Type 0 where
  pub shape : Shape
  pub on : IsOn p b shape
  pub stands : IsFor p J shape
  pub alike : Alike p P (point_at shape)

-- J stands for [m]P, if this is a curve and P its point
pub record IsMultiple (p b : ℕ) (m : ℕ) (P J : Point) : Type 0 where
  pub stands : IsCurve p b → IsPoint p b P → IsJacobian p b J (times_point p b m P)
