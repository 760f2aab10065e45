-- Sums in Jacobian coordinates are the sums of the points that they stand for.
use Rattle.std.proofs.Common.{◌≡◌, ℕ, zero, suc, ◌+◌, ◌-◌, ◌*◌, ◌%◌, ◌<◌, ◌==◌, List, [], ◌∷◌, Bool, true, false, refl}
use Rattle.std.proofs.Common.{sym, ap, ◌∙◌, ◌⊎◌, inl, inr, arith}
use Rattle.std.proofs.Math.Nat.{mod-eq_of_lt, mod-mod}
use Rattle.std.proofs.lemmas.Bool.{eqb-true, eqb-false, eq-eqb, ne_eqb}
use Rattle.limbs.proofs.Congruences.{add_alike, mul_alike}
use Rattle.residues.specs.Modulo.{plus, minus, times}
use Rattle.weierstrass.specs.Weierstrass.{Point, triple, products, sum_of}
use Rattle.algebra.proofs.Programs.{Expr, var, num, add, sub, mul, nth, eval, run}
use Rattle.algebra.proofs.Symbols.{modulo, minus_back, cancel}
use Rattle.algebra.proofs.Sound.{sound, point_of}
use Rattle.algebra.proofs.Relations.{run_related, nth_related}
use Rattle.weierstrass.specs.Group.{IsUnit, IsCurve, cubic_at, IsTimes, Alike, Shape, nowhere, spot, spot_point}
use Rattle.weierstrass.specs.Group.{point_at, IsOn, IsPoint}
use Rattle.weierstrass.specs.Jacobian.{IsLift, IsFor, IsJacobian}
use Rattle.weierstrass.specs.private_clauses.Formulas.{jacobian_from, jacobian_double, jacobian_last}
use Rattle.weierstrass.specs.private_clauses.Formulas.{jacobian_finite, jacobian_sum}
use Rattle.weierstrass.proofs.Field.{unit_one, unit_product, unit_same, unit_cancel, unit_zero, minus_zero}
use Rattle.weierstrass.proofs.Field.{minus_same, times_is, alike_respects}
use Rattle.weierstrass.proofs.PointLemmas.{AreSame, is_once, alike_self, alike_twice, sum_same}
use Rattle.weierstrass.proofs.Identities.{jacobian_double as jd_ids, jacobian_double_squares}
use Rattle.weierstrass.proofs.Identities.{jacobian_double_point, jacobian_double_vanishes}
use Rattle.weierstrass.proofs.Identities.{jacobian_double_bounded, jacobian_add, jacobian_add_squares}
use Rattle.weierstrass.proofs.Identities.{jacobian_add_point, jacobian_add_vanishes, jacobian_add_bounded}
use Rattle.weierstrass.proofs.Sums.{pos, more, roots, y_unit, two_unit, double_unit, chord_unit, cubic_same}
use Rattle.weierstrass.proofs.Sums.{same_self, sum_alike, sum_turned, opposite_sum, opposite_x, opposite_y}
use Rattle.weierstrass.proofs.Sums.{opposite_z}
use Rattle.weierstrass.proofs.Law.{cross, times_last, is_whole, is_nothing, on_curve, divided_on, sum_neutral}

-- a double, from x, y, z; its x, y and z are places 7, 1 and 0
jd_program : List Expr
jd_program =
    mul (var 2) (var 2) ∷
    mul (var 2) (var 2) ∷
    mul (var 2) (var 0) ∷
    mul (sub (var 3) (var 2)) (add (var 3) (var 2)) ∷
    add (add (var 0) (var 0)) (var 0) ∷
    add (var 2) (var 2) ∷
    add (var 0) (var 0) ∷
    add (var 0) (var 0) ∷
    sub (mul (var 3) (var 3)) (var 0) ∷
    mul (var 10) (var 11) ∷
    mul (var 8) (var 8) ∷
    add (var 0) (var 0) ∷
    add (var 0) (var 0) ∷
    add (var 0) (var 0) ∷
    sub (mul (var 9) (sub (var 7) (var 5))) (var 0) ∷
    add (var 5) (var 5) ∷
    []

-- a sum, from x1, y1, z1, x2, y2, z2; its x, y and z are places 2, 1 and 0, and r and h are 6 and 7
ja_program : List Expr
ja_program =
    mul (var 2) (var 2) ∷
    mul (var 6) (var 6) ∷
    mul (var 2) (var 0) ∷
    mul (var 6) (var 2) ∷
    mul (var 5) (mul (var 9) (var 2)) ∷
    mul (var 9) (mul (var 7) (var 4)) ∷
    sub (var 2) (var 3) ∷
    sub (var 1) (var 2) ∷
    mul (var 1) (var 1) ∷
    mul (var 2) (var 0) ∷
    mul (var 7) (var 1) ∷
    sub (sub (mul (var 3) (var 3)) (var 1)) (add (var 0) (var 0)) ∷
    sub (mul (var 4) (sub (var 1) (var 0))) (mul (var 7) (var 2)) ∷
    mul (mul (var 15) (var 18)) (var 6) ∷
    []

jd_values : (p : ℕ) (J : Point) → List ℕ
jd_values p J = run (modulo p) (J.x ∷ J.y ∷ J.z ∷ []) jd_program

jd_x : (p : ℕ) (J : Point) → nth 0 (jd_values p J) 7 ≡ (jacobian_double p J).x
unfolding jd_values jd_program jacobian_double jacobian_from triple nth run eval modulo
jd_x p J = refl

jd_y : (p : ℕ) (J : Point) → nth 0 (jd_values p J) 1 ≡ (jacobian_double p J).y
unfolding jd_values jd_program jacobian_double jacobian_from triple nth run eval modulo
jd_y p J = refl

jd_z : (p : ℕ) (J : Point) → nth 0 (jd_values p J) 0 ≡ (jacobian_double p J).z
unfolding jd_values jd_program jacobian_double jacobian_from triple nth run eval modulo
jd_z p J = refl

jd_related : (p : ℕ) (J J' : Point) → AreSame p J J' → (k : ℕ) → nth 0 (jd_values p J) k % p ≡ nth 0 (jd_values p J') k % p
unfolding jd_values modulo
jd_related p J J' s k =
    nth_related (λ a c. a % p ≡ c % p) 0 0 refl (jd_values p J) (jd_values p J')
    (run_related (modulo p) (modulo p) (λ a c. a % p ≡ c % p) (alike_respects p) (J.x ∷ J.y ∷ J.z ∷ [])
    (J'.x ∷ J'.y ∷ J'.z ∷ []) (s.x, (s.y, (s.z, tt))) jd_program) k

jd_same : (p : ℕ) (J J' : Point) → AreSame p J J' → AreSame p (jacobian_double p J) (jacobian_double p J')
jd_same p J J' s = record {
  x = ap (λ n. n % p) (sym (jd_x p J)) ∙ jd_related p J J' s 7 ∙ ap (λ n. n % p) (jd_x p J');
  y = ap (λ n. n % p) (sym (jd_y p J)) ∙ jd_related p J J' s 1 ∙ ap (λ n. n % p) (jd_y p J');
  z = ap (λ n. n % p) (sym (jd_z p J)) ∙ jd_related p J J' s 0 ∙ ap (λ n. n % p) (jd_z p J');
}

-- (l^2 x, l^3 y, l)
lifted : (p l x y : ℕ) → Point
lifted p l x y = record { x = times p (times p l l) x; y = times p (times p (times p l l) l) y; z = l }

lift_same : (p l : ℕ) (J : Point) (x y : ℕ) → IsLift p l J x y → AreSame p J (lifted p l x y)
unfolding lifted
lift_same p l J x y h = record {
  x = h.x_is ∙ sym (times_is p (times p l l) x ∙ mul_alike p (times p l l) (l * l) x x (times_is p l l) refl);
  y = h.y_is ∙ sym (times_is p (times p (times p l l) l) y
      ∙ mul_alike p (times p (times p l l) l) (l * l * l) y y (times_is p (times p l l) l
      ∙ mul_alike p (times p l l) (l * l) l l (times_is p l l) refl) refl);
  z = h.z_is;
}

-- t / c by the inverse of c
over : (p t u a c i : ℕ) → (c * i) % p ≡ 1 % p → (t * c) % p ≡ (a * u) % p → t % p ≡ (a * times p u i) % p
over p t u a c i inv e =
    cross p t u a c i inv e ∙ ap (λ n. n % p) (let k : a * i * u ≡ a * (u * i) = omega arith in k)
    ∙ mul_alike p a a (u * i) (times p u i) refl (sym (times_is p u i))

pub jacobian_alike : (p b : ℕ) (J P Q : Point) → Alike p Q P → IsJacobian p b J P → IsJacobian p b J Q
jacobian_alike p b J P Q a h = record {
  shape = h.shape;
  on = h.on;
  stands = h.stands;
  alike = alike_twice p Q P (point_at h.shape) a h.alike;
}

square_over : (p t t' z z' c d : ℕ) → t % p ≡ t' % p → z % p ≡ z' % p → times p t' c % p ≡ times p (times p z' z') d % p
    → (t * c) % p ≡ (z * z * d) % p
square_over p t t' z z' c d et ez e =
    mul_alike p t t' c c et refl ∙ sym (times_is p t' c) ∙ e ∙ times_is p (times p z' z') d
    ∙ mul_alike p (times p z' z') (z * z) d d (times_is p z' z' ∙ mul_alike p z' z z' z (sym ez) (sym ez)) refl

cube_over : (p t t' z z' c d : ℕ) → t % p ≡ t' % p → z % p ≡ z' % p
    → times p t' c % p ≡ times p (times p (times p z' z') z') d % p
    → (t * c) % p ≡ (z * z * z * d) % p
cube_over p t t' z z' c d et ez e =
    mul_alike p t t' c c et refl ∙ sym (times_is p t' c) ∙ e ∙ times_is p (times p (times p z' z') z') d
    ∙ mul_alike p (times p (times p z' z') z') (z * z * z) d d
    (times_is p (times p z' z') z' ∙ mul_alike p (times p z' z') (z * z) z' z (times_is p z' z'
    ∙ mul_alike p z' z z' z (sym ez) (sym ez)) (sym ez)) refl

zero_times : (p y z : ℕ) → 0 < p → z ≡ 0 → plus p (times p y z) (times p y z) ≡ 0
unfolding plus times
zero_times p y z h e =
    let none : 0 % p ≡ 0 = mod-eq_of_lt h in
    let k : y * 0 ≡ 0 = omega arith in
    rw (e, k, none, none) refl

-- the differences of x and of y
unfoldable pub h_of : (p : ℕ) (J K : Point) → ℕ
h_of p J K = minus p (times p K.x (times p J.z J.z)) (times p J.x (times p K.z K.z))

unfoldable pub r_of : (p : ℕ) (J K : Point) → ℕ
r_of p J K = minus p (times p K.y (times p J.z (times p J.z J.z))) (times p J.y (times p K.z (times p K.z K.z)))

unfoldable pub last_of : (p : ℕ) (J K : Point) → Point
last_of p J K =
    jacobian_last p (times p J.z K.z) (times p J.x (times p K.z K.z)) (times p J.y (times p K.z (times p K.z K.z)))
    (h_of p J K) (r_of p J K)

pub is_double : (p : ℕ) (J K : Point) → h_of p J K ≡ 0 → r_of p J K ≡ 0 → jacobian_double p J ≡ jacobian_finite p J K
unfolding jacobian_finite h_of r_of
is_double p J K e f = rw (eq-eqb (h_of p J K) 0 e, eq-eqb (r_of p J K) 0 f) refl

pub is_none : (p : ℕ) (J K : Point) → h_of p J K ≡ 0 → (r_of p J K ≡ 0 → ⊥) → record { x = 1; y = 1; z = 0 }
    ≡ jacobian_finite p J K
unfolding jacobian_finite h_of r_of
is_none p J K e f = rw (eq-eqb (h_of p J K) 0 e, ne_eqb (r_of p J K) 0 f) refl

pub is_last : (p : ℕ) (J K : Point) → (h_of p J K ≡ 0 → ⊥) → last_of p J K ≡ jacobian_finite p J K
unfolding jacobian_finite h_of r_of last_of
is_last p J K e = rw (ne_eqb (h_of p J K) 0 e) refl

pub is_second : (p : ℕ) (J K : Point) → J.z ≡ 0 → K ≡ jacobian_sum p J K
unfolding jacobian_sum
is_second p J K e = rw (eq-eqb J.z 0 e) refl

pub is_first : (p : ℕ) (J K : Point) → (J.z ≡ 0 → ⊥) → K.z ≡ 0 → J ≡ jacobian_sum p J K
unfolding jacobian_sum
is_first p J K n e = rw (ne_eqb J.z 0 n, eq-eqb K.z 0 e) refl

pub is_finite : (p : ℕ) (J K : Point) → (J.z ≡ 0 → ⊥) → (K.z ≡ 0 → ⊥) → jacobian_finite p J K ≡ jacobian_sum p J K
unfolding jacobian_sum
is_finite p J K n k = rw (ne_eqb J.z 0 n, ne_eqb K.z 0 k) refl

reduced_zero : (p a d e : ℕ) → 0 < p → a ≡ minus p d e → a % p ≡ 0 % p → a ≡ 0
unfolding minus
reduced_zero p a d e pos h z =
    let f : a % p ≡ a = ap (λ n. n % p) h ∙ mod-mod (d + (p - e % p)) p ∙ sym h in
    let g : 0 % p ≡ 0 = mod-eq_of_lt pos in
    omega arith

h_zero : (p : ℕ) → 0 < p → (J K : Point) → h_of p J K % p ≡ 0 % p → h_of p J K ≡ 0
unfolding h_of
h_zero p pos J K z = reduced_zero p (h_of p J K) (times p K.x (times p J.z J.z)) (times p J.x (times p K.z K.z)) pos refl z

r_zero : (p : ℕ) → 0 < p → (J K : Point) → r_of p J K % p ≡ 0 % p → r_of p J K ≡ 0
unfolding r_of
r_zero p pos J K z =
    reduced_zero p (r_of p J K) (times p K.y (times p J.z (times p J.z J.z)))
    (times p J.y (times p K.z (times p K.z K.z))) pos refl z

same_once : (p : ℕ) (S T : Point) → AreSame p S T → Alike p S T
same_once p S T s = record {
  factor = 1;
  unit = unit_one p;
  is_times = let o : IsTimes p 1 T T = is_once p T in record { x = s.x ∙ o.x; y = s.y ∙ o.y; z = s.z ∙ o.z };
}

module _ (p b : ℕ) (curve : IsCurve p b) where
  positive : 0 < p
  positive = pos p b curve

  zero_left : 0 % p ≡ 0
  zero_left = mod-eq_of_lt positive

  times_unit : (a c : ℕ) → IsUnit p a → IsUnit p c → IsUnit p (times p a c)
  times_unit a c v w = unit_same p (a * c) (times p a c) (sym (times_is p a c)) (unit_product p a c v w)

  -- what stands for a finite sum
  module _ (S T : Point) (v : IsUnit p S.z) (curve_of : minus p (times p (times p S.y S.y) S.z)
      (plus p (minus p (times p (times p S.x S.x) S.x) (times p 3 (times p S.x (times p S.z S.z))))
      (times p b (times p S.z (times p S.z S.z)))) % p ≡ 0 % p)
      (w : IsUnit p T.z) (ex : (T.x * S.z) % p ≡ (T.z * T.z * S.x) % p)
      (ey : (T.y * S.z) % p ≡ (T.z * T.z * T.z * S.y) % p) where
    stands_for : IsJacobian p b T S
    unfolding Rattle.weierstrass.proofs.Sums.ratio_at
    stands_for = record {
      shape = spot (times p S.x v.inverse) (times p S.y v.inverse);
      on = divided_on p b curve S.x S.y S.z v curve_of;
      stands = (
        T.z,
        record {
          unit = w;
          x_is = over p T.x S.x (T.z * T.z) S.z v.inverse v.is_inverse ex;
          y_is = over p T.y S.y (T.z * T.z * T.z) S.z v.inverse v.is_inverse ey;
          z_is = refl;
        },
      );
      alike = record {
        factor = S.z;
        unit = v;
        is_times = record {
          x = times_last p S.z S.x v.inverse v.is_inverse;
          y = times_last p S.z S.y v.inverse v.is_inverse;
          z = is_whole p S.z;
        };
      };
    }

  module _ (x y l : ℕ) (on : IsOn p b (spot x y)) (u : IsUnit p l) where
    total : Point
    total = sum_of p b (spot_point x y) (spot_point x y)

    made : Point
    made = jacobian_double p (lifted p l x y)

    jd_squares : (j : ℕ) → j < 1 → (y * y) % p ≡ eval (modulo p) (x ∷ l ∷ b ∷ []) (nth (num 0) jacobian_double_squares j) % p
    unfolding nth eval modulo cubic_at
    jd_squares zero k = on
    jd_squares (suc j) k = absurd (omega arith)

    jd_zero : (k : ℕ) → k < 3 → nth 0 (run (modulo p) (y ∷ x ∷ l ∷ b ∷ []) jd_ids) k % p ≡ 0 % p
    unfolding point_of
    jd_zero k h = sound 1 jacobian_double_squares jd_ids 3 jacobian_double_point jacobian_double_vanishes
        jacobian_double_bounded p positive (x ∷ l ∷ b ∷ []) refl (λ _. y) jd_squares k h

    made_x : times p made.x total.z % p ≡ times p (times p made.z made.z) total.x % p
    unfolding nth run eval modulo sum_of triple products made total lifted
        Rattle.weierstrass.specs.private_clauses.Formulas.jacobian_double jacobian_from
    made_x = minus_zero p positive (times p made.x total.z) (times p (times p made.z made.z) total.x) (jd_zero 0 (omega arith))

    made_y : times p made.y total.z % p ≡ times p (times p (times p made.z made.z) made.z) total.y % p
    unfolding nth run eval modulo sum_of triple products made total lifted
        Rattle.weierstrass.specs.private_clauses.Formulas.jacobian_double jacobian_from
    made_y = minus_zero p positive (times p made.y total.z) (times p (times p (times p made.z made.z) made.z) total.y)
        (jd_zero 1 (omega arith))

    made_z : made.z % p ≡ times p (times p 2 (times p (times p (times p l l) l) y)) l % p
    unfolding nth run eval modulo made lifted Rattle.weierstrass.specs.private_clauses.Formulas.jacobian_double
        jacobian_from triple
    made_z = minus_zero p positive made.z (times p (times p 2 (times p (times p (times p l l) l) y)) l)
        (jd_zero 2 (omega arith))

    made_unit : IsUnit p made.z
    made_unit =
        unit_same p (times p (times p 2 (times p (times p (times p l l) l) y)) l) made.z (sym made_z)
        (times_unit (times p 2 (times p (times p (times p l l) l) y)) l
        (times_unit 2 (times p (times p (times p l l) l) y) (two_unit p b curve)
        (times_unit (times p (times p l l) l) y (times_unit (times p l l) l (times_unit l l u u) u)
        (y_unit p b curve x y on))) u)

    double_stands : (J : Point) → IsLift p l J x y → IsJacobian p b (jacobian_double p J) total
    unfolding made total Rattle.weierstrass.proofs.Sums.ratio_at
    double_stands J h =
        let T = jacobian_double p J in
        let s : AreSame p T made = jd_same p J (lifted p l x y) (lift_same p l J x y h) in
        stands_for total T (double_unit p b curve x y on) (on_curve p b curve x y x y on on total refl)
        (unit_same p made.z T.z (sym s.z) made_unit)
        (square_over p T.x made.x T.z made.z total.z total.x s.x s.z made_x)
        (cube_over p T.y made.y T.z made.z total.z total.y s.y s.z made_y)

  two_nowhere : (P Q : Point) → Alike p P (point_at nowhere) → Alike p Q (point_at nowhere)
      → Alike p (sum_of p b P Q) (point_at nowhere)
  two_nowhere P Q h k =
      let O = point_at nowhere in
      let hO : IsPoint p b O = record { shape = nowhere; on = tt; alike = alike_self p O } in
      alike_twice p (sum_of p b P Q) (sum_of p b O O) O (sum_alike p positive b P O Q O h k) (sum_neutral p b curve O hO)

  zero_z : (J : Point) → J.z ≡ 0 → (jacobian_double p J).z ≡ 0
  unfolding Rattle.weierstrass.specs.private_clauses.Formulas.jacobian_double jacobian_from
  zero_z J e = zero_times p J.y J.z positive e

  pub double_is : (J P : Point) → IsJacobian p b J P → IsJacobian p b (jacobian_double p J) (sum_of p b P P)
  unfolding total
  double_is J P h = go h.shape h.on h.stands h.alike
    where
      go : (s : Shape) → IsOn p b s → IsFor p J s → Alike p P (point_at s)
          → IsJacobian p b (jacobian_double p J) (sum_of p b P P)
      go nowhere on st a = record {
        shape = nowhere;
        on = tt;
        stands = zero_z J st;
        alike = two_nowhere P P a a;
      }
      go (spot x y) on st a =
          let D = sum_of p b (spot_point x y) (spot_point x y) in
          jacobian_alike p b (jacobian_double p J) D (sum_of p b P P) (sum_alike p positive b P (spot_point x y) P
          (spot_point x y) a a)
          (double_stands x y st.0 on st.1.unit J st.1)

  module _ (x1 y1 l : ℕ) (on1 : IsOn p b (spot x1 y1)) (u1 : IsUnit p l) (x2 y2 m : ℕ) (on2 : IsOn p b (spot x2 y2))
      (u2 : IsUnit p m) where
    both : Point
    both = sum_of p b (spot_point x1 y1) (spot_point x2 y2)

    ja_values : (J K : Point) → List ℕ
    ja_values J K = run (modulo p) (J.x ∷ J.y ∷ J.z ∷ K.x ∷ K.y ∷ K.z ∷ []) ja_program

    ja_related : (J J' K K' : Point) → AreSame p J J' → AreSame p K K' → (k : ℕ) → nth 0 (ja_values J K) k % p
        ≡ nth 0 (ja_values J' K') k % p
    unfolding ja_values modulo
    ja_related J J' K K' s t k =
        nth_related (λ a c. a % p ≡ c % p) 0 0 refl (ja_values J K) (ja_values J' K')
        (run_related (modulo p) (modulo p) (λ a c. a % p ≡ c % p) (alike_respects p) (J.x ∷ J.y ∷ J.z ∷ K.x ∷ K.y ∷ K.z ∷ [])
        (J'.x ∷ J'.y ∷ J'.z ∷ K'.x ∷ K'.y ∷ K'.z ∷ []) (s.x, (s.y, (s.z, (t.x, (t.y, (t.z, tt)))))) ja_program) k

    ja_squares : (j : ℕ) → j < 2 → (roots p b curve (y1 ∷ y2 ∷ []) j * roots p b curve (y1 ∷ y2 ∷ []) j) % p
        ≡ eval (modulo p) (l ∷ m ∷ x2 ∷ x1 ∷ b ∷ []) (nth (num 0) jacobian_add_squares j) % p
    unfolding nth eval modulo cubic_at roots
    ja_squares zero k = on1
    ja_squares (suc zero) k = on2
    ja_squares (suc (suc j)) k = absurd (omega arith)

    ja_zero : (k : ℕ) → k < 5 → nth 0 (run (modulo p) (y2 ∷ y1 ∷ l ∷ m ∷ x2 ∷ x1 ∷ b ∷ []) jacobian_add) k % p ≡ 0 % p
    unfolding point_of nth roots
    ja_zero k h = sound 2 jacobian_add_squares jacobian_add 5 jacobian_add_point jacobian_add_vanishes
        jacobian_add_bounded p positive
        (l ∷ m ∷ x2 ∷ x1 ∷ b ∷ []) refl (roots p b curve (y1 ∷ y2 ∷ [])) ja_squares k h

    one : Point
    one = lifted p l x1 y1

    two : Point
    two = lifted p m x2 y2

    last : Point
    last = last_of p one two

    lm : ℕ
    lm = times p l m

    ll : ℕ
    ll = times p lm lm

    last_x : times p last.x both.z % p ≡ times p (times p last.z last.z) both.x % p
    unfolding nth run eval modulo sum_of triple products both one two last last_of h_of r_of jacobian_last lifted
    last_x = minus_zero p positive (times p last.x both.z) (times p (times p last.z last.z) both.x) (ja_zero 0 (omega arith))

    last_y : times p last.y both.z % p ≡ times p (times p (times p last.z last.z) last.z) both.y % p
    unfolding nth run eval modulo sum_of triple products both one two last last_of h_of r_of jacobian_last lifted
    last_y = minus_zero p positive (times p last.y both.z) (times p (times p (times p last.z last.z) last.z) both.y)
        (ja_zero 1 (omega arith))

    last_z : last.z % p ≡ times p lm (h_of p one two) % p
    unfolding nth run eval modulo one two last last_of h_of r_of jacobian_last lifted lm
    last_z = minus_zero p positive last.z (times p lm (h_of p one two)) (ja_zero 2 (omega arith))

    h_is : h_of p one two % p ≡ times p ll (minus p x2 x1) % p
    unfolding nth run eval modulo one two h_of lifted lm ll
    h_is = minus_zero p positive (h_of p one two) (times p ll (minus p x2 x1)) (ja_zero 3 (omega arith))

    r_is : r_of p one two % p ≡ times p (times p ll lm) (minus p y2 y1) % p
    unfolding nth run eval modulo one two r_of lifted lm ll
    r_is = minus_zero p positive (r_of p one two) (times p (times p ll lm) (minus p y2 y1)) (ja_zero 4 (omega arith))

    lm_unit : IsUnit p lm
    unfolding lm
    lm_unit = times_unit l m u1 u2

    ll_unit : IsUnit p ll
    unfolding ll
    ll_unit = times_unit lm lm lm_unit lm_unit

    free : (a d : ℕ) → IsUnit p a → times p a d % p ≡ 0 % p → d % p ≡ 0 % p
    free a d u e = unit_cancel p a d 0 u (sym (times_is p a d) ∙ e ∙ ap (λ n. n % p) (let k : 0 ≡ a * 0 = omega arith in k))

    module _ (J K : Point) (lj : IsLift p l J x1 y1) (lk : IsLift p m K x2 y2) where
      sj : AreSame p J one
      unfolding one
      sj = lift_same p l J x1 y1 lj

      sk : AreSame p K two
      unfolding two
      sk = lift_same p m K x2 y2 lk

      same_h : h_of p J K % p ≡ h_of p one two % p
      unfolding nth run eval modulo ja_values ja_program h_of
      same_h = ja_related J one K two sj sk 7

      same_r : r_of p J K % p ≡ r_of p one two % p
      unfolding nth run eval modulo ja_values ja_program r_of
      same_r = ja_related J one K two sj sk 6

      same_last : AreSame p (last_of p J K) last
      unfolding nth run eval modulo ja_values ja_program last_of h_of r_of jacobian_last last
      same_last = record {
        x = ja_related J one K two sj sk 2;
        y = ja_related J one K two sj sk 1;
        z = ja_related J one K two sj sk 0;
      }

      equal_x : h_of p J K ≡ 0 → x1 % p ≡ x2 % p
      equal_x e =
          sym (minus_zero p positive x2 x1 (free ll (minus p x2 x1) ll_unit (sym h_is ∙ sym same_h ∙ ap (λ n. n % p) e)))

      equal_y : r_of p J K ≡ 0 → y1 % p ≡ y2 % p
      equal_y e =
          sym (minus_zero p positive y2 y1
          (free (times p ll lm) (minus p y2 y1) (times_unit ll lm ll_unit lm_unit) (sym r_is ∙ sym same_r ∙ ap (λ n. n % p) e)))

      when_double : h_of p J K ≡ 0 → r_of p J K ≡ 0 → IsJacobian p b (jacobian_double p J) both
      unfolding both total
      when_double e f =
          let P = spot_point x1 y1 in
          let Q = spot_point x2 y2 in
          jacobian_alike p b (jacobian_double p J) (sum_of p b P P) (sum_of p b P Q)
          (same_once p (sum_of p b P Q) (sum_of p b P P)
          (sum_same p b P P Q P (same_self p P) (record { x = sym (equal_x e); y = sym (equal_y f); z = refl })))
          (double_stands x1 y1 l on1 u1 J lj)

      when_nothing : h_of p J K ≡ 0 → (r_of p J K ≡ 0 → ⊥) → Alike p both (point_at nowhere)
      unfolding both opposite_sum
      when_nothing e n = go (curve.field.unit_or_zero (y1 + y2))
        where
          squares_same : (y1 * y1) % p ≡ (y2 * y2) % p
          squares_same = on1 ∙ cubic_same p b curve x1 x2 (equal_x e) ∙ sym on2

          go : IsUnit p (y1 + y2) ⊎ ((y1 + y2) % p ≡ 0 % p) → Alike p (sum_of p b (spot_point x1 y1) (spot_point x2 y2))
              (point_at nowhere)
          go (inl u) =
              let f : (y1 + y2) * y1 ≡ y1 * y1 + y2 * y1 = omega arith in
              let g : y2 * y2 + y2 * y1 ≡ (y1 + y2) * y2 = omega arith in
              let same : y1 % p ≡ y2 % p =
              unit_cancel p (y1 + y2) y1 y2 u (ap (λ n. n % p) f
              ∙ add_alike p (y1 * y1) (y2 * y2) (y2 * y1) (y2 * y1) squares_same refl ∙ ap (λ n. n % p) g) in
              let d : minus p y2 y1 % p ≡ 0 % p = minus_same p positive y2 y1 (sym same) in
              let z : r_of p J K % p ≡ 0 % p =
              same_r ∙ r_is ∙ times_is p (times p ll lm) (minus p y2 y1) ∙ mul_alike p (times p ll lm) (times p ll lm)
              (minus p y2 y1) 0 refl d
              ∙ ap (λ n. n % p) (let k : times p ll lm * 0 ≡ 0 = omega arith in k) in
              absurd (n (r_zero p positive J K z))
          go (inr h) =
              let opp : y2 % p ≡ minus p 0 y1 % p =
              cancel p positive y2 (minus p 0 y1) y1 (ap (λ n. n % p) (let k : y2 + y1 ≡ y1 + y2 = omega arith in k) ∙ h
              ∙ sym (minus_back p positive 0 y1)) in
              let O = opposite_sum p b curve x1 y1 on1 in
              let S = sum_of p b (spot_point x1 y1) (spot_point x2 y2) in
              let s : AreSame p S O =
              sum_same p b (spot_point x1 y1) (spot_point x1 y1) (spot_point x2 y2) (spot_point x1 (minus p 0 y1))
              (same_self p (spot_point x1 y1))
              (record { x = sym (equal_x e); y = opp; z = refl }) in
              record {
                factor = O.y;
                unit = opposite_y p b curve x1 y1 on1;
                is_times = record {
                  x = s.x ∙ is_nothing p O.y O.x (opposite_x p b curve x1 y1 on1);
                  y = s.y ∙ is_whole p O.y;
                  z = s.z ∙ is_nothing p O.y O.z (opposite_z p b curve x1 y1 on1);
                };
              }

      when_chord : (h_of p J K ≡ 0 → ⊥) → IsJacobian p b (last_of p J K) both
      unfolding both Rattle.weierstrass.proofs.Sums.ratio_at
      when_chord n = go (curve.field.unit_or_zero (minus p x2 x1))
        where
          go : IsUnit p (minus p x2 x1) ⊎ (minus p x2 x1 % p ≡ 0 % p)
              → IsJacobian p b (last_of p J K) (sum_of p b (spot_point x1 y1) (spot_point x2 y2))
          go (inl u) =
              let T = last_of p J K in
              let S = sum_of p b (spot_point x1 y1) (spot_point x2 y2) in
              let s = same_last in
              let hu : IsUnit p (h_of p one two) = unit_same p (times p ll (minus p x2 x1)) (h_of p one two) (sym h_is)
              (times_unit ll (minus p x2 x1) ll_unit u) in
              let zu : IsUnit p last.z = unit_same p (times p lm (h_of p one two)) last.z (sym last_z)
              (times_unit lm (h_of p one two) lm_unit hu) in
              stands_for S T (chord_unit p b curve x1 y1 x2 y2 on1 on2 u) (on_curve p b curve x1 y1 x2 y2 on1 on2 S refl)
              (unit_same p last.z T.z (sym s.z) zu)
              (square_over p T.x last.x T.z last.z S.z S.x s.x s.z last_x)
              (cube_over p T.y last.y T.z last.z S.z S.y s.y s.z last_y)
          go (inr e) =
              absurd (n (h_zero p positive J K
              (same_h ∙ h_is ∙ times_is p ll (minus p x2 x1) ∙ mul_alike p ll ll (minus p x2 x1) 0 refl e
              ∙ ap (λ n. n % p) (let k : ll * 0 ≡ 0 = omega arith in k))))

      finite_is : IsJacobian p b (jacobian_finite p J K) both
      finite_is = go (h_of p J K == 0) refl (r_of p J K == 0) refl
        where
          go : (c : Bool) → (h_of p J K == 0) ≡ c → (d : Bool) → (r_of p J K == 0) ≡ d
              → IsJacobian p b (jacobian_finite p J K) both
          go true e true f =
              let eh = eqb-true (h_of p J K) 0 e in
              let er = eqb-true (r_of p J K) 0 f in
              rw (← is_double p J K eh er) (when_double eh er)
          go true e false f =
              let eh = eqb-true (h_of p J K) 0 e in
              let nr = eqb-false (r_of p J K) 0 f in
              rw (← is_none p J K eh nr) (record { shape = nowhere; on = tt; stands = refl; alike = when_nothing eh nr })
          go false e d f =
              let nh = eqb-false (h_of p J K) 0 e in
              rw (← is_last p J K nh) (when_chord nh)

  pub stands_below : (l x y : ℕ) (J : Point) → IsLift p l J x y → J.z ≡ 0 → ⊥
  stands_below l x y J h e = unit_zero p l (more p b curve) h.unit (sym h.z_is ∙ ap (λ n. n % p) e)

  -- Jacobian sums are the sums of the points
  pub sum_is : (J K P Q : Point) → IsJacobian p b J P → IsJacobian p b K Q
      → IsJacobian p b (jacobian_sum p J K) (sum_of p b P Q)
  unfolding both
  sum_is J K P Q h k = go h.shape k.shape h.on k.on h.stands k.stands h.alike k.alike
    where
      go : (s t : Shape) → IsOn p b s → IsOn p b t → IsFor p J s → IsFor p K t → Alike p P (point_at s) → Alike p Q (point_at t)
          → IsJacobian p b (jacobian_sum p J K) (sum_of p b P Q)
      go nowhere t on1 on2 sj sk a c =
          rw (← is_second p J K sj)
          (record {
            shape = t;
            on = on2;
            stands = sk;
            alike = alike_twice p (sum_of p b P Q) (sum_of p b (point_at nowhere) (point_at t)) (point_at t)
                (sum_alike p positive b P (point_at nowhere) Q (point_at t) a c)
                (rw (sum_turned p b (point_at nowhere) (point_at t))
                (sum_neutral p b curve (point_at t) (record { shape = t; on = on2; alike = alike_self p (point_at t) })));
          })
      go (spot x y) nowhere on1 on2 sj sk a c =
          rw (← is_first p J K (stands_below sj.0 x y J sj.1) sk)
          (record {
            shape = spot x y;
            on = on1;
            stands = sj;
            alike = alike_twice p (sum_of p b P Q) (sum_of p b (spot_point x y) (point_at nowhere)) (spot_point x y)
                (sum_alike p positive b P (spot_point x y) Q (point_at nowhere) a c)
                (sum_neutral p b curve (spot_point x y)
                (record { shape = spot x y; on = on1; alike = alike_self p (spot_point x y) }));
          })
      go (spot x1 y1) (spot x2 y2) on1 on2 sj sk a c =
          rw (← is_finite p J K (stands_below sj.0 x1 y1 J sj.1) (stands_below sk.0 x2 y2 K sk.1))
          (jacobian_alike p b (jacobian_finite p J K) (sum_of p b (spot_point x1 y1) (spot_point x2 y2)) (sum_of p b P Q)
          (sum_alike p positive b P (spot_point x1 y1) Q (spot_point x2 y2) a c)
          (finite_is x1 y1 sj.0 on1 sj.1.unit x2 y2 sk.0 on2 sk.1.unit J K sj.1 sk.1))
