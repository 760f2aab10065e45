-- Sums and doubles in Jacobian coordinates, and sums of multiples of two points.
use Rattle.std.specs.Prelude.{ℕ, zero, suc, ◌==◌, if◌then◌else◌}
use Rattle.residues.specs.Modulo.{plus, minus, times}
use Rattle.weierstrass.specs.Weierstrass.{Point, infinity, triple, sum_of}
use Rattle.weierstrass.specs.Group.{IsCurve, IsPoint, Alike, times_point}
use Rattle.weierstrass.specs.Jacobian.{IsJacobian}

-- the last lines of a double, from Z, Y, Y^2, X Y^2 and 3 (X - Z^2) (X + Z^2)
unfoldable pub jacobian_from : (p z y gamma beta alpha : ℕ) → Point
jacobian_from p z y gamma beta alpha =
    let b2 = plus p beta beta in
    let b4 = plus p b2 b2 in
    let x = minus p (times p alpha alpha) (plus p b4 b4) in
    let yz = times p y z in
    let g1 = times p gamma gamma in
    let g2 = plus p g1 g1 in
    let g4 = plus p g2 g2 in
    record { x = x; y = minus p (times p alpha (minus p b4 x)) (plus p g4 g4); z = plus p yz yz }

-- twice a point, by 8 products
unfoldable pub jacobian_double : (p : ℕ) → Point → Point
jacobian_double p J =
    let delta = times p J.z J.z in
    let gamma = times p J.y J.y in
    jacobian_from p J.z J.y gamma (times p J.x gamma) (triple p (times p (minus p J.x delta) (plus p J.x delta)))

-- the last lines of a sum, from Z1 Z2, X1 Z2^2, Y1 Z2^3 and the differences h and r
unfoldable pub jacobian_last : (p zz u s h r : ℕ) → Point
jacobian_last p zz u s h r =
    let hh = times p h h in
    let hhh = times p h hh in
    let v = times p u hh in
    let x = minus p (minus p (times p r r) hhh) (plus p v v) in
    record { x = x; y = minus p (times p r (minus p v x)) (times p s hhh); z = times p zz h }

-- the sum of points that are finite; if x is the same, it is the double or nothing
unfoldable pub jacobian_finite : (p : ℕ) → (J K : Point) → Point
jacobian_finite p J K =
    let one = times p J.z J.z in
    let other = times p K.z K.z in
    let u = times p J.x other in
    let s = times p J.y (times p K.z other) in
    let h = minus p (times p K.x one) u in
    let r = minus p (times p K.y (times p J.z one)) s in
    if h == 0 then (if r == 0 then jacobian_double p J else record { x = 1; y = 1; z = 0 })
    else jacobian_last p (times p J.z K.z) u s h r

-- the sum of two points
unfoldable pub jacobian_sum : (p : ℕ) → (J K : Point) → Point
jacobian_sum p J K = if J.z == 0 then K else if K.z == 0 then J else jacobian_finite p J K

-- the point of Jacobian coordinates
unfoldable pub projective_of : (p : ℕ) → Point → Point
projective_of p J =
    if J.z == 0 then infinity else record { x = times p J.x J.z; y = J.y; z = times p J.z (times p J.z J.z) }

-- P added n times, from (1, 1, 0) on
unfoldable pub jacobian_times : (p : ℕ) → ℕ → Point → Point
jacobian_times p zero P = record { x = 1; y = 1; z = 0 }
jacobian_times p (suc n) P = jacobian_sum p (jacobian_times p n P) P

-- [m]P + [n]Q
unfoldable pub joint : (p b : ℕ) (m : ℕ) (P : Point) (n : ℕ) (Q : Point) → Point
joint p b m P n Q = sum_of p b (times_point p b m P) (times_point p b n Q)

-- R is [m]P + [n]Q, if this is a curve and these are its points
pub record IsSumOf (p b : ℕ) (m : ℕ) (P : Point) (n : ℕ) (Q R : Point) : Type 0 where
  pub alike : IsCurve p b → IsPoint p b P → IsPoint p b Q → Alike p R (joint p b m P n Q)

-- J stands for [m]P + [n]Q, if this is a curve and these are its points
pub record IsJointOf (p b : ℕ) (m : ℕ) (P : Point) (n : ℕ) (Q J : Point) : Type 0 where
  pub stands : IsCurve p b → IsPoint p b P → IsPoint p b Q → IsJacobian p b J (joint p b m P n Q)
