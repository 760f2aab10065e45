-- Sums of multiples of two points, in Jacobian coordinates.
use Rattle.std.proofs.Common.{◌≡◌, ℕ, zero, suc, ◌+◌, ◌*◌, ◌%◌, ◌<◌, List, get_or, length, refl, sym, ap, subst, ◌∙◌, arith}
use Rattle.std.proofs.lemmas.Bool.{eq-eqb, ne_eqb}
use Rattle.limbs.proofs.Congruences.{mul_alike}
use Rattle.residues.specs.Modulo.{times}
use Rattle.residues.specs.Bytes.{little_endian}
use Rattle.weierstrass.specs.Weierstrass.{Point, infinity, sum_of, double_of}
use Rattle.weierstrass.specs.Group.{IsCurve, Alike, IsPoint, Shape, nowhere, spot, spot_point, point_at, IsOn}
use Rattle.weierstrass.specs.Group.{times_point}
use Rattle.weierstrass.specs.Jacobian.{IsLift, IsFor, IsJacobian, IsMultiple}
use Rattle.weierstrass.specs.Joint.{IsJoint}
use Rattle.weierstrass.specs.private_clauses.Formulas.{joint, jacobian_double, jacobian_sum, projective_of}
use Rattle.weierstrass.specs.private_clauses.Formulas.{IsJointOf, jacobian_times}
use Rattle.weierstrass.proofs.Field.{unit_one, unit_product, unit_zero, times_is}
use Rattle.weierstrass.proofs.PointLemmas.{alike_self, alike_turned, alike_twice}
use Rattle.weierstrass.proofs.Sums.{pos, more}
use Rattle.weierstrass.proofs.Law.{times_nothing}
use Rattle.weierstrass.proofs.Multiples.{joint_double, joint_first, joint_second, neutral_right, infinity_point}
use Rattle.weierstrass.proofs.JacobianLaw.{double_is, sum_is, jacobian_alike, stands_below}
use Rattle.weierstrass.proofs.Windows.{joint_from}

none_projective : (p : ℕ) (J : Point) → J.z ≡ 0 → Alike p (projective_of p J) (point_at nowhere)
unfolding projective_of infinity
none_projective p J e = rw (eq-eqb J.z 0 e) (alike_self p (point_at nowhere))

some_projective : (p l x y : ℕ) (J : Point) → (J.z ≡ 0 → ⊥) → IsLift p l J x y → Alike p (projective_of p J) (spot_point x y)
unfolding projective_of
some_projective p l x y J n h =
    rw (ne_eqb J.z 0 n)
    (record {
      factor = l * l * l;
      unit = unit_product p (l * l) l (unit_product p l l h.unit h.unit) h.unit;
      is_times = record {
        x = times_is p J.x J.z ∙ mul_alike p J.x (l * l * x) J.z l h.x_is h.z_is
            ∙ ap (λ n. n % p) (let k : l * l * x * l ≡ l * l * l * x = omega arith in k);
        y = h.y_is;
        z = times_is p J.z (times p J.z J.z)
            ∙ mul_alike p J.z l (times p J.z J.z) (l * l) h.z_is (times_is p J.z J.z ∙ mul_alike p J.z l J.z l h.z_is h.z_is)
            ∙ ap (λ n. n % p) (let k : l * (l * l) ≡ l * l * l * 1 = omega arith in k);
      };
    })

module _ (p b : ℕ) (curve : IsCurve p b) where
  positive : 0 < p
  positive = pos p b curve

  none_is : (J : Point) → J.z ≡ 0 → IsJacobian p b J infinity
  unfolding infinity
  none_is J e = record { shape = nowhere; on = tt; stands = e; alike = alike_self p (point_at nowhere) }

  -- a point of z = 1
  affine_is : (P : Point) → P.z ≡ 1 → IsPoint p b P → IsJacobian p b P P
  affine_is P e h = go h.shape h.on h.alike
    where
      go : (s : Shape) → IsOn p b s → Alike p P (point_at s) → IsJacobian p b P P
      go nowhere on a =
          absurd (unit_zero p 1 (more p b curve) (unit_one p) (sym (ap (λ n. n % p) e)
          ∙ times_nothing p a.factor P.z a.is_times.z))
      go (spot x y) on a =
          let l = a.factor in
          let one : l % p ≡ 1 % p = ap (λ n. n % p) (let k : l ≡ l * 1 = omega arith in k) ∙ sym a.is_times.z
          ∙ ap (λ n. n % p) e in
          record {
            shape = spot x y;
            on = on;
            stands = (
              1,
              record {
                unit = unit_one p;
                x_is = a.is_times.x ∙ mul_alike p l 1 x x one refl
                    ∙ ap (λ n. n % p) (let k : 1 * x ≡ 1 * 1 * x = omega arith in k);
                y_is = a.is_times.y ∙ mul_alike p l 1 y y one refl
                    ∙ ap (λ n. n % p) (let k : 1 * y ≡ 1 * 1 * 1 * y = omega arith in k);
                z_is = ap (λ n. n % p) e;
              },
            );
            alike = a;
          }

  times_are : (n : ℕ) (P : Point) → P.z ≡ 1 → IsPoint p b P → IsJacobian p b (jacobian_times p n P) (times_point p b n P)
  unfolding jacobian_times times_point
  times_are zero P e h = none_is (record { x = 1; y = 1; z = 0 }) refl
  times_are (suc n) P e h = sum_is p b curve (jacobian_times p n P) P (times_point p b n P) P (times_are n P e h)
      (affine_is P e h)

  -- the projective point is the one that J stands for
  projective_is : (J P : Point) → IsJacobian p b J P → Alike p (projective_of p J) P
  projective_is J P h = alike_twice p (projective_of p J) (point_at h.shape) P (go h.shape h.stands)
      (alike_turned p P (point_at h.shape) h.alike)
    where
      go : (s : Shape) → IsFor p J s → Alike p (projective_of p J) (point_at s)
      go nowhere e = none_projective p J e
      go (spot x y) st = some_projective p st.0 x y J (stands_below p b curve st.0 x y J st.1) st.1

  module _ (P Q : Point) (h : IsPoint p b P) (k : IsPoint p b Q) where
    quick : (m n m' n' : ℕ) (J : Point) → IsJacobian p b J (joint p b m P n Q) → m' ≡ m + m → n' ≡ n + n
        → IsJacobian p b (jacobian_double p J) (joint p b m' P n' Q)
    unfolding double_of
    quick m n m' n' J s e f =
        let R = joint p b m P n Q in
        jacobian_alike p b (jacobian_double p J) (sum_of p b R R) (joint p b m' P n' Q)
        (alike_turned p (sum_of p b R R) (joint p b m' P n' Q)
        (joint_double p b curve m n m' n' P Q R h k (alike_self p R) e f))
        (double_is p b curve J R s)

    sixteen_is : (m n : ℕ) (J : Point) → IsJacobian p b J (joint p b m P n Q)
        → IsJacobian p b (jacobian_double p (jacobian_double p (jacobian_double p (jacobian_double p J))))
        (joint p b (16 * m) P (16 * n) Q)
    sixteen_is m n J s =
        let J1 = jacobian_double p J in
        let J2 = jacobian_double p J1 in
        let J3 = jacobian_double p J2 in
        let s1 = quick m n (2 * m) (2 * n) J s (omega arith) (omega arith) in
        let s2 = quick (2 * m) (2 * n) (4 * m) (4 * n) J1 s1 (omega arith) (omega arith) in
        let s3 = quick (4 * m) (4 * n) (8 * m) (8 * n) J2 s2 (omega arith) (omega arith) in
        quick (8 * m) (8 * n) (16 * m) (16 * n) J3 s3 (omega arith) (omega arith)

    first_is : (m n d : ℕ) (A J : Point) → IsJacobian p b J (joint p b m P n Q) → IsJacobian p b A (times_point p b d P)
        → IsJacobian p b (jacobian_sum p J A) (joint p b (m + d) P n Q)
    first_is m n d A J s a =
        let R = joint p b m P n Q in
        let D = times_point p b d P in
        jacobian_alike p b (jacobian_sum p J A) (sum_of p b R D) (joint p b (m + d) P n Q)
        (alike_turned p (sum_of p b R D) (joint p b (m + d) P n Q)
        (joint_first p b curve m n d (m + d) P Q R D h k (alike_self p R) (alike_self p D) refl))
        (sum_is p b curve J A R D s a)

    second_is : (m n e : ℕ) (B J : Point) → IsJacobian p b J (joint p b m P n Q) → IsJacobian p b B (times_point p b e Q)
        → IsJacobian p b (jacobian_sum p J B) (joint p b m P (n + e) Q)
    second_is m n e B J s c =
        let R = joint p b m P n Q in
        let E = times_point p b e Q in
        jacobian_alike p b (jacobian_sum p J B) (sum_of p b R E) (joint p b m P (n + e) Q)
        (alike_turned p (sum_of p b R E) (joint p b m P (n + e) Q)
        (joint_second p b curve m n e (n + e) P Q R E h k (alike_self p R) (alike_self p E) refl))
        (sum_is p b curve J B R E s c)

-- both multiples 16 times
pub sixteen_joint : (p b m n : ℕ) (P Q J R : Point) → IsJointOf p b m P n Q J
    → R ≡ jacobian_double p (jacobian_double p (jacobian_double p (jacobian_double p J)))
    → IsJointOf p b (16 * m) P (16 * n) Q R
sixteen_joint p b m n P Q J R s er =
    record { stands = λ curve h k. rw er (sixteen_is p b curve P Q h k m n J (s.stands curve h k)) }

-- d times the first point more
pub first_joint : (p b m n d : ℕ) (P Q A J R : Point) → IsJointOf p b m P n Q J → IsMultiple p b d P A → R ≡ jacobian_sum p J A
    → IsJointOf p b (m + d) P n Q R
first_joint p b m n d P Q A J R s a er =
    record { stands = λ curve h k. rw er (first_is p b curve P Q h k m n d A J (s.stands curve h k) (a.stands curve h)) }

-- e times the second point more
pub second_joint : (p b m n e : ℕ) (P Q B J R : Point) → IsJointOf p b m P n Q J → IsMultiple p b e Q B → R ≡ jacobian_sum p J B
    → IsJointOf p b m P (n + e) Q R
second_joint p b m n e P Q B J R s c er =
    record { stands = λ curve h k. rw er (second_is p b curve P Q h k m n e B J (s.stands curve h k) (c.stands curve k)) }

pub times_multiple : (p b d : ℕ) (P A : Point) → P.z ≡ 1 → A ≡ jacobian_times p d P → IsMultiple p b d P A
times_multiple p b d P A z ea = record { stands = λ curve h. rw ea (times_are p b curve d P z h) }

-- a point of z = 1 that is the multiple
pub affine_multiple : (p b d : ℕ) (P A : Point) → A.z ≡ 1
    → (IsCurve p b → IsPoint p b P → IsPoint p b A × Alike p (times_point p b d P) A) → IsMultiple p b d P A
affine_multiple p b d P A z found = record {
  stands = λ curve h.
      let is = found curve h in
      jacobian_alike p b A A (times_point p b d P) is.1 (affine_is p b curve A z is.0);
}

pub joint_at : (p b m n m' n' : ℕ) (P Q J : Point) → m ≡ m' → n ≡ n' → IsJointOf p b m P n Q J → IsJointOf p b m' P n' Q J
joint_at p b m n m' n' P Q J e f s = subst (λ x. IsJointOf p b x P n' Q J) e (subst (λ y. IsJointOf p b m P y Q J) f s)

-- nothing yet
pub none_joint_of : (p b m n : ℕ) (P Q J : Point) → m ≡ 0 → n ≡ 0 → J.z ≡ 0 → IsJointOf p b m P n Q J
unfolding joint times_point
none_joint_of p b m n P Q J em en ez = record {
  stands = λ curve h k.
      rw (em, en)
      (jacobian_alike p b J infinity (sum_of p b infinity infinity)
      (neutral_right p b curve infinity (infinity_point p b curve)) (none_is p b curve J ez));
}

pub joint_by : (p b : ℕ) (u v : List ℕ) (P Q J R : Point) → ((i : ℕ) → get_or u i 0 < 256) → ((i : ℕ) → get_or v i 0 < 256)
    → length u ≡ length v → R ≡ projective_of p J → IsJointOf p b (little_endian u) P (little_endian v) Q J
    → IsJoint p b u P v Q R
joint_by p b u v P Q J R hu hv l er s =
    joint_from p b u v P Q R hu hv l
    (record {
      alike = λ curve h k. rw er (projective_is p b curve J (joint p b (little_endian u) P (little_endian v) Q)
          (s.stands curve h k));
    })
