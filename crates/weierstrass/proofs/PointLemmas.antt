-- Points in proportion, and sums of these.
use Rattle.std.proofs.Common.{◌≡◌, ℕ, ◌*◌, ◌%◌, ◌<◌, List, [], ◌∷◌, refl, sym, ap, ◌∙◌, arith}
use Rattle.limbs.proofs.Congruences.{mul_alike}
use Rattle.residues.specs.Modulo.{times}
use Rattle.weierstrass.specs.Weierstrass.{Point, triple, products, sum_of}
use Rattle.algebra.proofs.Programs.{Expr, var, add, sub, mul, nth, eval, run}
use Rattle.algebra.proofs.Symbols.{modulo}
use Rattle.algebra.proofs.Sound.{sound, point_of}
use Rattle.algebra.proofs.Relations.{run_related, nth_related}
use Rattle.weierstrass.proofs.Field.{unit_one, unit_product, unit_inverse, minus_zero, times_is, alike_respects}
use Rattle.weierstrass.proofs.Identities.{scaled, scaled_squares, scaled_point, scaled_vanishes, scaled_bounded}
use Rattle.weierstrass.specs.Group.{Alike, IsTimes}

times_one : (p a : ℕ) → a % p ≡ (1 * a) % p
times_one p a = ap (λ z. z % p) (let e : a ≡ 1 * a = omega arith in e)

pub is_once : (p : ℕ) (P : Point) → IsTimes p 1 P P
is_once p P = record { x = times_one p P.x; y = times_one p P.y; z = times_one p P.z }

times_twice : (p l m a b c : ℕ) → a % p ≡ (l * b) % p → b % p ≡ (m * c) % p → a % p ≡ (l * m * c) % p
times_twice p l m a b c h k = h ∙ mul_alike p l l b (m * c) refl k
    ∙ ap (λ z. z % p) (let e : l * (m * c) ≡ l * m * c = omega arith in e)

pub is_times_twice : (p l m : ℕ) (P Q R : Point) → IsTimes p l P Q → IsTimes p m Q R → IsTimes p (l * m) P R
is_times_twice p l m P Q R h k = record {
  x = times_twice p l m P.x Q.x R.x h.x k.x;
  y = times_twice p l m P.y Q.y R.y h.y k.y;
  z = times_twice p l m P.z Q.z R.z h.z k.z;
}

pub is_times_same : (p l m : ℕ) (P Q : Point) → l % p ≡ m % p → IsTimes p l P Q → IsTimes p m P Q
is_times_same p l m P Q e h = record {
  x = h.x ∙ mul_alike p l m Q.x Q.x e refl;
  y = h.y ∙ mul_alike p l m Q.y Q.y e refl;
  z = h.z ∙ mul_alike p l m Q.z Q.z e refl;
}

times_back : (p l i a b : ℕ) → (l * i) % p ≡ 1 % p → a % p ≡ (l * b) % p → b % p ≡ (i * a) % p
times_back p l i a b u h =
    ap (λ z. z % p) (let e : b ≡ 1 * b = omega arith in e) ∙ mul_alike p 1 (l * i) b b (sym u) refl
    ∙ ap (λ z. z % p) (let e : l * i * b ≡ i * (l * b) = omega arith in e) ∙ mul_alike p i i (l * b) a refl (sym h)

pub alike_self : (p : ℕ) (P : Point) → Alike p P P
alike_self p P = record { factor = 1; unit = unit_one p; is_times = is_once p P }

pub alike_turned : (p : ℕ) (P Q : Point) → Alike p P Q → Alike p Q P
alike_turned p P Q a = record {
  factor = a.unit.inverse;
  unit = unit_inverse p a.factor a.unit;
  is_times = record {
    x = times_back p a.factor a.unit.inverse P.x Q.x a.unit.is_inverse a.is_times.x;
    y = times_back p a.factor a.unit.inverse P.y Q.y a.unit.is_inverse a.is_times.y;
    z = times_back p a.factor a.unit.inverse P.z Q.z a.unit.is_inverse a.is_times.z;
  };
}

pub alike_twice : (p : ℕ) (P Q R : Point) → Alike p P Q → Alike p Q R → Alike p P R
alike_twice p P Q R a b = record {
  factor = a.factor * b.factor;
  unit = unit_product p a.factor b.factor a.unit b.unit;
  is_times = is_times_twice p a.factor b.factor P Q R a.is_times b.is_times;
}

-- a sum, from x1, y1, z1, x2, y2, z2, b; its x, y and z are places 2, 1 and 0
sum_program : List Expr
sum_program =
    mul (var 0) (var 3) ∷
    mul (var 2) (var 5) ∷
    mul (var 4) (var 7) ∷
    add (mul (var 3) (var 7)) (mul (var 6) (var 4)) ∷
    add (mul (var 4) (var 9)) (mul (var 7) (var 6)) ∷
    add (mul (var 6) (var 10)) (mul (var 9) (var 7)) ∷
    sub (var 1) (mul (var 12) (var 3)) ∷
    add (add (var 0) (var 0)) (var 0) ∷
    add (add (var 5) (var 5)) (var 5) ∷
    sub (sub (mul (var 15) (var 4)) (var 8)) (var 0) ∷
    add (add (var 0) (var 0)) (var 0) ∷
    sub (var 10) (var 8) ∷
    add (add (var 0) (var 0)) (var 0) ∷
    add (var 11) (var 5) ∷
    sub (var 12) (var 6) ∷
    sub (mul (var 11) (var 1)) (mul (var 9) (var 4)) ∷
    add (mul (var 1) (var 2)) (mul (var 3) (var 5)) ∷
    add (mul (var 11) (var 2)) (mul (var 13) (var 4)) ∷
    []

sum_values : (p b : ℕ) (P Q : Point) → List ℕ
sum_values p b P Q = run (modulo p) (P.x ∷ P.y ∷ P.z ∷ Q.x ∷ Q.y ∷ Q.z ∷ b ∷ []) sum_program

sum_x : (p b : ℕ) (P Q : Point) → nth 0 (sum_values p b P Q) 2 ≡ (sum_of p b P Q).x
unfolding sum_values sum_program sum_of triple products nth run eval modulo
sum_x p b P Q = refl

sum_y : (p b : ℕ) (P Q : Point) → nth 0 (sum_values p b P Q) 1 ≡ (sum_of p b P Q).y
unfolding sum_values sum_program sum_of triple products nth run eval modulo
sum_y p b P Q = refl

sum_z : (p b : ℕ) (P Q : Point) → nth 0 (sum_values p b P Q) 0 ≡ (sum_of p b P Q).z
unfolding sum_values sum_program sum_of triple products nth run eval modulo
sum_z p b P Q = refl

-- the same numbers modulo p
pub record AreSame (p : ℕ) (P Q : Point) : Type 0 where
  pub x : P.x % p ≡ Q.x % p
  pub y : P.y % p ≡ Q.y % p
  pub z : P.z % p ≡ Q.z % p

sum_related : (p b : ℕ) (P P' Q Q' : Point) → AreSame p P P' → AreSame p Q Q' → (k : ℕ)
    → nth 0 (sum_values p b P Q) k % p ≡ nth 0 (sum_values p b P' Q') k % p
unfolding sum_values modulo
sum_related p b P P' Q Q' s t k =
    nth_related (λ a c. a % p ≡ c % p) 0 0 refl (sum_values p b P Q) (sum_values p b P' Q')
    (run_related (modulo p) (modulo p) (λ a c. a % p ≡ c % p) (alike_respects p) (P.x ∷ P.y ∷ P.z ∷ Q.x ∷ Q.y ∷ Q.z ∷ b ∷ [])
    (P'.x ∷ P'.y ∷ P'.z ∷ Q'.x ∷ Q'.y ∷ Q'.z ∷ b ∷ []) (s.x, (s.y, (s.z, (t.x, (t.y, (t.z, (refl, tt))))))) sum_program) k

pub sum_same : (p b : ℕ) (P P' Q Q' : Point) → AreSame p P P' → AreSame p Q Q' → AreSame p (sum_of p b P Q) (sum_of p b P' Q')
sum_same p b P P' Q Q' s t = record {
  x = ap (λ n. n % p) (sym (sum_x p b P Q)) ∙ sum_related p b P P' Q Q' s t 2 ∙ ap (λ n. n % p) (sum_x p b P' Q');
  y = ap (λ n. n % p) (sym (sum_y p b P Q)) ∙ sum_related p b P P' Q Q' s t 1 ∙ ap (λ n. n % p) (sum_y p b P' Q');
  z = ap (λ n. n % p) (sym (sum_z p b P Q)) ∙ sum_related p b P P' Q Q' s t 0 ∙ ap (λ n. n % p) (sum_z p b P' Q');
}

-- l P
unfoldable pub scale : (p l : ℕ) → Point → Point
scale p l P = record { x = times p l P.x; y = times p l P.y; z = times p l P.z }

module _ (p : ℕ) (pos : 0 < p) (b l : ℕ) (P Q : Point) where
  scaled_zero : (k : ℕ) → k < 3 → nth 0 (run (modulo p) (l ∷ P.x ∷ P.y ∷ P.z ∷ Q.x ∷ Q.y ∷ Q.z ∷ b ∷ []) scaled) k % p ≡ 0 % p
  unfolding point_of
  scaled_zero k h = sound 0 scaled_squares scaled 3 scaled_point scaled_vanishes scaled_bounded p pos
      (l ∷ P.x ∷ P.y ∷ P.z ∷ Q.x ∷ Q.y ∷ Q.z ∷ b ∷ []) refl (λ _. 0) (λ j e. absurd (omega arith)) k h

  square : (a : ℕ) → times p (times p l l) a % p ≡ (l * l * a) % p
  square a = times_is p (times p l l) a ∙ mul_alike p (times p l l) (l * l) a a (times_is p l l) refl

  scaled_x : (sum_of p b (scale p l P) Q).x % p ≡ (l * l * (sum_of p b P Q).x) % p
  unfolding sum_of triple products nth run eval modulo scale
  scaled_x = minus_zero p pos (sum_of p b (scale p l P) Q).x (times p (times p l l) (sum_of p b P Q).x)
      (scaled_zero 2 (omega arith))
      ∙ square (sum_of p b P Q).x

  scaled_y : (sum_of p b (scale p l P) Q).y % p ≡ (l * l * (sum_of p b P Q).y) % p
  unfolding sum_of triple products nth run eval modulo scale
  scaled_y = minus_zero p pos (sum_of p b (scale p l P) Q).y (times p (times p l l) (sum_of p b P Q).y)
      (scaled_zero 1 (omega arith))
      ∙ square (sum_of p b P Q).y

  scaled_z : (sum_of p b (scale p l P) Q).z % p ≡ (l * l * (sum_of p b P Q).z) % p
  unfolding sum_of triple products nth run eval modulo scale
  scaled_z = minus_zero p pos (sum_of p b (scale p l P) Q).z (times p (times p l l) (sum_of p b P Q).z)
      (scaled_zero 0 (omega arith))
      ∙ square (sum_of p b P Q).z

  pub scaled_sum : IsTimes p (l * l) (sum_of p b (scale p l P) Q) (sum_of p b P Q)
  scaled_sum = record { x = scaled_x; y = scaled_y; z = scaled_z }
