-- Tables of a base point's multiples for a comb, by computing.
use Rattle.std.proofs.Common.{◌≡◌, ℕ, zero, suc, ◌+◌, ◌-◌, ◌*◌, ◌^◌, ◌<◌, ◌≤◌, ◌⊎◌, Bool, true, ◌&&◌, List, []}
use Rattle.std.proofs.Common.{get_or, inl, inr, refl, sym, ap, ◌∙◌, subst, arith}
use Rattle.std.proofs.Math.Nat.{pow-suc}
use Rattle.std.proofs.lemmas.Nat.{pow-add, pow_pos}
use Rattle.std.proofs.lemmas.Bool.{and_parts, cases_lt}
use Rattle.weierstrass.specs.Weierstrass.{Point, sum_of}
use Rattle.weierstrass.specs.Group.{IsCurve, Alike, IsPoint, spot_point, times_point}
use Rattle.weierstrass.specs.Jacobian.{IsMultiple}
use Rattle.weierstrass.proofs.PointLemmas.{alike_turned, alike_twice}
use Rattle.weierstrass.proofs.Sums.{pos, sum_alike}
use Rattle.weierstrass.proofs.Law.{point_alike}
use Rattle.weierstrass.proofs.Multiples.{multiple_point, multiples_sum, neutral_left}
use Rattle.weierstrass.proofs.Tables.{is_affine, affine_alike}
use Rattle.weierstrass.proofs.JacobianWindows.{affine_multiple}
use Rattle.combs.specs.Combs.{spread}
use Rattle.combs.proofs.CombLemmas.{spread_zero, spread_more}

-- Q twice, n times over
unfoldable pub doubles : (p b n : ℕ) → Point → Point
doubles p b zero Q = Q
doubles p b (suc n) Q = doubles p b n (sum_of p b Q Q)

module _ (p b a : ℕ) (x_of y_of : List ℕ → ℕ) (rows : List (List ℕ)) where
  -- the point of a row
  abbrev pub row_point : ℕ → Point
  row_point d = spot_point (x_of (get_or rows d [])) (y_of (get_or rows d []))

  abbrev is_row : Point → ℕ → Bool
  is_row Q d = is_affine p Q (x_of (get_or rows d [])) (y_of (get_or rows d []))

  -- the rows after the tooth 2 ^ t, as many as n, are its sums with the first rows
  unfoldable pub are_sums : (t n : ℕ) → Bool
  are_sums t zero = true
  are_sums t (suc n) = is_row (sum_of p b (row_point (suc n)) (row_point (2 ^ t))) (2 ^ t + suc n) && are_sums t n

  -- the teeth up to 2 ^ t are those before them, doubled, and the rows between them are sums
  unfoldable pub are_teeth : (t : ℕ) → Bool
  are_teeth zero = true
  are_teeth (suc t) =
      are_teeth t && (is_row (doubles p b a (row_point (2 ^ t))) (2 ^ suc t) && are_sums (suc t) (2 ^ suc t - 1))

  module _ (curve : IsCurve p b) (G : Point) (is_point : IsPoint p b G) where
    abbrev IsAt : (j : ℕ) → Point → Type 0
    IsAt j Q = Alike p (times_point p b j G) Q

    sum_at : (i j k : ℕ) (Q R : Point) → IsAt i Q → IsAt j R → k ≡ i + j → IsAt k (sum_of p b Q R)
    sum_at i j k Q R h l e =
        let I = times_point p b i G in
        let J = times_point p b j G in
        rw e (alike_twice p (times_point p b (i + j) G) (sum_of p b I J) (sum_of p b Q R)
        (multiples_sum p b curve i j G is_point) (sum_alike p (pos p b curve) b I Q J R h l))

    doubles_at : (n j k : ℕ) (Q : Point) → IsAt j Q → k ≡ 2 ^ n * j → IsAt k (doubles p b n Q)
    unfolding doubles
    doubles_at zero j k Q h e = let f : k ≡ j = let g : k ≡ 1 * j = e in omega arith in rw f h
    doubles_at (suc n) j k Q h e =
        let w : 2 ^ suc n ≡ 2 ^ n * 2 = pow-suc 2 n in
        let f : k ≡ 2 ^ n * (j + j) = e ∙ ap (λ z. z * j) w ∙ (omega arith) in
        doubles_at n (j + j) k (sum_of p b Q Q) (sum_at j j (j + j) Q Q h h refl) f

    row_at : (j d : ℕ) (Q : Point) → IsAt j Q → is_row Q d ≡ true → IsAt j (row_point d)
    row_at j d Q h e = alike_twice p (times_point p b j G) Q (row_point d) h
        (affine_alike p curve.field Q (x_of (get_or rows d [])) (y_of (get_or rows d [])) e)

    -- all rows below 2 ^ t
    record AreAt (t : ℕ) : Type 0 where
      at : (d : ℕ) → 0 < d → d < 2 ^ t → IsAt (spread a 8 d) (row_point d)

    last_sum : (t n : ℕ) → t < 8 → AreAt t → IsAt (2 ^ (a * t)) (row_point (2 ^ t)) → suc n < 2 ^ t
        → is_row (sum_of p b (row_point (suc n)) (row_point (2 ^ t))) (2 ^ t + suc n) ≡ true → (r : ℕ) → r ≤ suc n
        → (r < suc n) ⊎ (suc n ≤ r) → (r ≤ n → IsAt (spread a 8 (2 ^ t + r)) (row_point (2 ^ t + r)))
        → IsAt (spread a 8 (2 ^ t + r)) (row_point (2 ^ t + r))
    last_sum t n few all tooth lt test r le (inl l) earlier = earlier (omega arith)
    last_sum t n few all tooth lt test r le (inr l) earlier =
        let e : r ≡ suc n = omega arith in
        let turned : 2 ^ t + suc n ≡ suc n + 2 ^ t = omega arith in
        rw e (row_at (spread a 8 (2 ^ t + suc n)) (2 ^ t + suc n)
        (sum_of p b (row_point (suc n)) (row_point (2 ^ t)))
        (sum_at (spread a 8 (suc n)) (2 ^ (a * t)) (spread a 8 (2 ^ t + suc n)) (row_point (suc n)) (row_point (2 ^ t))
        (all.at (suc n) (omega arith) lt) tooth
        (ap (spread a 8) turned ∙ spread_more a 8 t (suc n) lt few)) test)

    sums_at : (t n : ℕ) → t < 8 → AreAt t → IsAt (2 ^ (a * t)) (row_point (2 ^ t)) → n < 2 ^ t → are_sums t n ≡ true → (r : ℕ)
        → 0 < r → r ≤ n → IsAt (spread a 8 (2 ^ t + r)) (row_point (2 ^ t + r))
    unfolding are_sums
    sums_at t zero few all tooth lt h r some le = absurd (omega arith)
    sums_at t (suc n) few all tooth lt h r some le =
        let parts = and_parts (is_row (sum_of p b (row_point (suc n)) (row_point (2 ^ t))) (2 ^ t + suc n)) (are_sums t n) h in
        last_sum t n few all tooth lt parts.0 r le (cases_lt r (suc n))
        (λ l. sums_at t n few all tooth (omega arith) parts.1 r some l)

    spread_tooth : (t : ℕ) → t < 8 → spread a 8 (2 ^ t) ≡ 2 ^ (a * t)
    spread_tooth t few =
        let e : 0 + 2 ^ t ≡ 2 ^ t = omega arith in
        ap (spread a 8) (sym e) ∙ spread_more a 8 t 0 (pow_pos t) few ∙ ap (λ z. z + 2 ^ (a * t)) (spread_zero a 8) ∙ (omega arith)

    next_teeth : (t : ℕ) → suc t < 8 → AreAt (suc t)
        → (is_row (doubles p b a (row_point (2 ^ t))) (2 ^ suc t) && are_sums (suc t) (2 ^ suc t - 1)) ≡ true
        → AreAt (suc (suc t))
    next_teeth t few before both = record { at = λ d some lt. go d some lt (cases_lt d (2 ^ suc t)) }
      where
        tests : (is_row (doubles p b a (row_point (2 ^ t))) (2 ^ suc t) ≡ true) × (are_sums (suc t) (2 ^ suc t - 1) ≡ true)
        tests = and_parts _ _ both

        exponents : 2 ^ (a * suc t) ≡ 2 ^ a * 2 ^ (a * t)
        exponents = let e : a * suc t ≡ a + a * t = omega arith in ap (λ z. 2 ^ z) e ∙ pow-add 2 a (a * t)

        last : IsAt (2 ^ (a * t)) (row_point (2 ^ t))
        last = let w : 2 ^ suc t ≡ 2 ^ t * 2 = pow-suc 2 t in let positive = pow_pos t in
            subst (λ z. IsAt z (row_point (2 ^ t))) (spread_tooth t (omega arith)) (before.at (2 ^ t) positive (omega arith))

        tooth : IsAt (2 ^ (a * suc t)) (row_point (2 ^ suc t))
        tooth = row_at (2 ^ (a * suc t)) (2 ^ suc t) (doubles p b a (row_point (2 ^ t)))
            (doubles_at a (2 ^ (a * t)) (2 ^ (a * suc t)) (row_point (2 ^ t)) last exponents) tests.0

        split : (d : ℕ) → d < 2 ^ suc (suc t) → 2 ^ suc t ≤ d → (0 < d - 2 ^ suc t) ⊎ (d - 2 ^ suc t ≤ 0)
            → IsAt (spread a 8 d) (row_point d)
        split d lt l (inl m) =
            let w : 2 ^ suc (suc t) ≡ 2 ^ suc t * 2 = pow-suc 2 (suc t) in
            let positive : 0 < 2 ^ suc t = pow_pos (suc t) in
            let e : 2 ^ suc t + (d - 2 ^ suc t) ≡ d = omega arith in
            subst (λ z. IsAt (spread a 8 z) (row_point z)) e
            (sums_at (suc t) (2 ^ suc t - 1) few before tooth (omega arith) tests.1 (d - 2 ^ suc t) m (omega arith))
        split d lt l (inr m) =
            let e : d ≡ 2 ^ suc t = omega arith in
            rw e (subst (λ z. IsAt z (row_point (2 ^ suc t))) (sym (spread_tooth (suc t) few)) tooth)

        go : (d : ℕ) → 0 < d → d < 2 ^ suc (suc t) → (d < 2 ^ suc t) ⊎ (2 ^ suc t ≤ d) → IsAt (spread a 8 d) (row_point d)
        go d some lt (inl l) = before.at d some l
        go d some lt (inr l) = split d lt l (cases_lt 0 (d - 2 ^ suc t))

    teeth_at : (t : ℕ) → t < 8 → is_row G 1 ≡ true → are_teeth t ≡ true → AreAt (suc t)
    unfolding are_teeth times_point
    teeth_at zero few first h = record {
      at = λ d some lt.
          let k : d < 2 = lt in
          let e : d ≡ 1 = omega arith in
          rw e (subst (λ z. IsAt z (row_point 1)) (sym one_is) (row_at 1 1 G (neutral_left p b curve G is_point) first));
    }
      where
        one_is : spread a 8 1 ≡ 1
        one_is = spread_tooth 0 (omega arith) ∙ ap (λ z. 2 ^ z) (let z : a * 0 ≡ 0 = omega arith in z)
    teeth_at (suc t) few first h =
        let parts = and_parts (are_teeth t)
        (is_row (doubles p b a (row_point (2 ^ t))) (2 ^ suc t) && are_sums (suc t) (2 ^ suc t - 1)) h in
        next_teeth t few (teeth_at t (omega arith) first parts.0) parts.1

  -- each row is the multiple
  pub comb_row : (G : Point) → is_row G 1 ≡ true → are_teeth 7 ≡ true → (d : ℕ) → 0 < d → d < 256
      → IsMultiple p b (spread a 8 d) G (row_point d)
  comb_row G first h d some lt =
      let A = row_point d in
      affine_multiple p b (spread a 8 d) G A refl
      (λ curve is_point.
      let there : Alike p (times_point p b (spread a 8 d) G) A = (teeth_at curve G is_point 7 (omega arith) first h).at d some lt in (
        point_alike p b curve A (times_point p b (spread a 8 d) G) (alike_turned p (times_point p b (spread a 8 d) G) A there)
            (multiple_point p b curve (spread a 8 d) G is_point),
        there,
      ))
