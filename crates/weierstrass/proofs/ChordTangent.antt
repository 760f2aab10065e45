-- The formulas' sum is the sum by chords and tangents (SEC 1 section 2.2.1, rules 4 and 5; rules 1 to 3 are sum_neutral
-- and sum_opposite).
use Rattle.std.proofs.Common.{◌≡◌, ℕ, zero, suc, ◌*◌, ◌%◌, ◌<◌, [], ◌∷◌, refl, sym, ap, ◌∙◌, arith}
use Rattle.residues.specs.Modulo.{plus, minus, times}
use Rattle.weierstrass.specs.Weierstrass.{Point, triple, products, sum_of}
use Rattle.algebra.proofs.Programs.{num, nth, eval, run}
use Rattle.algebra.proofs.Symbols.{modulo}
use Rattle.algebra.proofs.Sound.{sound, point_of}
use Rattle.weierstrass.specs.Group.{IsUnit, IsCurve, cubic_at, Alike, spot, spot_point, IsOn, third_x, third_y}
use Rattle.weierstrass.proofs.Field.{unit_product, unit_same, unit_cancel, minus_zero, minus_same, times_is}
use Rattle.weierstrass.proofs.Identities.{secant, secant_squares, secant_point, secant_vanishes, secant_bounded}
use Rattle.weierstrass.proofs.Identities.{touch, touch_squares, touch_point, touch_vanishes, touch_bounded}
use Rattle.weierstrass.proofs.Sums.{pos, roots, y_unit, two_unit, double_unit, chord_unit, times_zero}
use Rattle.weierstrass.proofs.Law.{is_whole}

module _ (p b : ℕ) (curve : IsCurve p b) where
  positive : 0 < p
  positive = pos p b curve

  freed : (u n g c : ℕ) → IsUnit p u → g % p ≡ 0 % p → minus p (times p u n) (times p g c) % p ≡ 0 % p → n % p ≡ 0 % p
  freed u n g c unit zero_is h =
      unit_cancel p u n 0 unit
      (sym (times_is p u n) ∙ minus_zero p positive (times p u n) (times p g c) h ∙ times_zero p c g zero_is
      ∙ ap (λ m. m % p) (let k : 0 ≡ u * 0 = omega arith in k))

  -- a coordinate of the sum, from the line's
  on_line : (z t s : ℕ) → minus p t (times p s z) % p ≡ 0 % p → t % p ≡ (z * s) % p
  on_line z t s h = minus_zero p positive t (times p s z) h ∙ times_is p s z
      ∙ ap (λ m. m % p) (let k : s * z ≡ z * s = omega arith in k)

  negated : (g : ℕ) → g % p ≡ 0 % p → minus p 0 g % p ≡ 0 % p
  negated g e = minus_same p positive 0 g (sym e)

  module _ (x1 y1 x2 y2 l : ℕ) (on1 : IsOn p b (spot x1 y1)) (on2 : IsOn p b (spot x2 y2))
      (apart : IsUnit p (minus p x2 x1)) (slope : times p l (minus p x2 x1) % p ≡ minus p y2 y1 % p) where
    S : Point
    S = sum_of p b (spot_point x1 y1) (spot_point x2 y2)

    squares_are : (j : ℕ) → j < 2 → (roots p b curve (y1 ∷ y2 ∷ []) j * roots p b curve (y1 ∷ y2 ∷ []) j) % p
        ≡ eval (modulo p) (x2 ∷ x1 ∷ l ∷ b ∷ []) (nth (num 0) secant_squares j) % p
    unfolding nth eval modulo cubic_at roots
    squares_are zero k = on1
    squares_are (suc zero) k = on2
    squares_are (suc (suc j)) k = absurd (omega arith)

    secant_zero : (k : ℕ) → k < 2 → nth 0 (run (modulo p) (y2 ∷ y1 ∷ x2 ∷ x1 ∷ l ∷ b ∷ []) secant) k % p ≡ 0 % p
    unfolding point_of nth roots
    secant_zero k h =
        sound 2 secant_squares secant 2 secant_point secant_vanishes secant_bounded p positive (x2 ∷ x1 ∷ l ∷ b ∷ []) refl
        (roots p b curve (y1 ∷ y2 ∷ [])) squares_are k h

    width : ℕ
    width = minus p x2 x1

    rise : ℕ
    rise = minus p y2 y1

    gap : ℕ
    gap = minus p (times p l width) rise

    steep : ℕ
    steep = plus p (times p l width) rise

    gap_zero : gap % p ≡ 0 % p
    unfolding gap width rise
    gap_zero = minus_same p positive (times p l (minus p x2 x1)) (minus p y2 y1) slope

    square_unit : IsUnit p (times p width width)
    unfolding width
    square_unit = unit_same p (width * width) (times p width width) (sym (times_is p width width))
        (unit_product p width width apart apart)

    cube_unit : IsUnit p (times p (times p width width) width)
    unfolding width
    cube_unit =
        unit_same p (times p width width * width) (times p (times p width width) width)
        (sym (times_is p (times p width width) width))
        (unit_product p (times p width width) width square_unit apart)

    line_x : minus p S.x (times p (third_x p l x1 x2) S.z) % p ≡ 0 % p
    unfolding nth run eval modulo sum_of triple products S width rise gap steep
    line_x =
        freed (times p width width) (minus p S.x (times p (third_x p l x1 x2) S.z)) (minus p 0 gap)
        (times p steep S.z) square_unit (negated gap gap_zero)
        (secant_zero 1 (omega arith))

    line_y : minus p S.y (times p (third_y p l x1 y1 x2) S.z) % p ≡ 0 % p
    unfolding nth run eval modulo sum_of triple products S width rise gap steep
    line_y =
        freed (times p (times p width width) width) (minus p S.y (times p (third_y p l x1 y1 x2) S.z)) gap
        (times p (minus p (times p rise steep) (times p (times p width width) (minus p x1 (third_x p l x1 x2)))) S.z)
        cube_unit gap_zero
        (secant_zero 0 (omega arith))

    -- rule 4: the chord
    pub sum_by_chord : Alike p (sum_of p b (spot_point x1 y1) (spot_point x2 y2))
        (spot_point (third_x p l x1 x2) (third_y p l x1 y1 x2))
    unfolding S
    sum_by_chord = record {
      factor = S.z;
      unit = chord_unit p b curve x1 y1 x2 y2 on1 on2 apart;
      is_times = record {
        x = on_line S.z S.x (third_x p l x1 x2) line_x;
        y = on_line S.z S.y (third_y p l x1 y1 x2) line_y;
        z = is_whole p S.z;
      };
    }

  module _ (x y l : ℕ) (on : IsOn p b (spot x y)) (slope : times p l (times p 2 y) % p
      ≡ minus p (times p 3 (times p x x)) 3 % p) where
    D : Point
    D = sum_of p b (spot_point x y) (spot_point x y)

    touch_are : (j : ℕ) → j < 1 → (y * y) % p ≡ eval (modulo p) (x ∷ l ∷ b ∷ []) (nth (num 0) touch_squares j) % p
    unfolding nth eval modulo cubic_at
    touch_are zero k = on
    touch_are (suc j) k = absurd (omega arith)

    touch_zero : (k : ℕ) → k < 2 → nth 0 (run (modulo p) (y ∷ x ∷ l ∷ b ∷ []) touch) k % p ≡ 0 % p
    unfolding point_of
    touch_zero k h = sound 1 touch_squares touch 2 touch_point touch_vanishes touch_bounded p positive
        (x ∷ l ∷ b ∷ []) refl (λ _. y) touch_are k h

    twice : ℕ
    twice = times p 2 y

    up : ℕ
    up = minus p (times p 3 (times p x x)) 3

    off : ℕ
    off = minus p (times p l twice) up

    all_up : ℕ
    all_up = plus p (times p l twice) up

    off_zero : off % p ≡ 0 % p
    unfolding off twice up
    off_zero = minus_same p positive (times p l (times p 2 y)) (minus p (times p 3 (times p x x)) 3) slope

    twice_unit : IsUnit p twice
    unfolding twice
    twice_unit = unit_same p (2 * y) (times p 2 y) (sym (times_is p 2 y))
        (unit_product p 2 y (two_unit p b curve) (y_unit p b curve x y on))

    twice_square : IsUnit p (times p twice twice)
    twice_square = unit_same p (twice * twice) (times p twice twice) (sym (times_is p twice twice))
        (unit_product p twice twice twice_unit twice_unit)

    twice_cube : IsUnit p (times p (times p twice twice) twice)
    twice_cube =
        unit_same p (times p twice twice * twice) (times p (times p twice twice) twice)
        (sym (times_is p (times p twice twice) twice))
        (unit_product p (times p twice twice) twice twice_square twice_unit)

    tangent_x : minus p D.x (times p (third_x p l x x) D.z) % p ≡ 0 % p
    unfolding nth run eval modulo sum_of triple products D twice up off all_up
    tangent_x =
        freed (times p twice twice) (minus p D.x (times p (third_x p l x x) D.z)) (minus p 0 off)
        (times p all_up D.z) twice_square (negated off off_zero)
        (touch_zero 1 (omega arith))

    tangent_y : minus p D.y (times p (third_y p l x y x) D.z) % p ≡ 0 % p
    unfolding nth run eval modulo sum_of triple products D twice up off all_up
    tangent_y =
        freed (times p (times p twice twice) twice) (minus p D.y (times p (third_y p l x y x) D.z)) off
        (times p (minus p (times p up all_up) (times p (times p twice twice) (minus p x (third_x p l x x)))) D.z)
        twice_cube off_zero
        (touch_zero 0 (omega arith))

    -- rule 5: the tangent
    pub sum_by_tangent : Alike p (sum_of p b (spot_point x y) (spot_point x y))
        (spot_point (third_x p l x x) (third_y p l x y x))
    unfolding D
    sum_by_tangent = record {
      factor = D.z;
      unit = double_unit p b curve x y on;
      is_times = record {
        x = on_line D.z D.x (third_x p l x x) tangent_x;
        y = on_line D.z D.y (third_y p l x y x) tangent_y;
        z = is_whole p D.z;
      };
    }
