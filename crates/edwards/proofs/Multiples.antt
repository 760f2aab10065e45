-- Multiples of a point.
use Rattle.std.proofs.Common.{◌≡◌, ℕ, zero, suc, ◌+◌, ◌*◌, ◌/◌, ◌%◌, ◌^◌, ◌<◌, ap, subst, arith}
use Rattle.std.specs.Prelude.{◌↔◌}
use Rattle.std.proofs.Math.Nat.{two-pow-succ, add-suc, add-zero}
use Rattle.edwards.specs.Edwards.{Point, neutral, sum_of, double_of, step_of, steps_of, multiple_of, AreSame}
use Rattle.edwards.specs.Group.{IsField, IsCurve, IsPoint, negative_of, repeat_of}
use Rattle.edwards.proofs.Laws as L

module _ (p d : ℕ) (field : IsField p) (curve : IsCurve p d) where
  abbrev k : ℕ
  k = L.twice_of p d field

  abbrev sum : Point → Point → Point
  sum P Q = sum_of p k P Q

  abbrev negative : Point → Point
  negative P = negative_of p P

  abbrev repeat : ℕ → Point → Point
  repeat n P = repeat_of p k n P

  -- the two are points of the curve, and one point
  pub record Same (P Q : Point) : Type 0 where
    pub left : IsPoint p d P
    pub right : IsPoint p d Q
    pub same : AreSame p P Q

  infixl 20 ◌▸◌
  pub ◌▸◌ : {P Q R : Point} → Same P Q → Same Q R → Same P R
  ◌▸◌ {P} {Q} {R} s t = record { left = s.left; right = t.right; same = L.AreSame-trans p d field P Q R s.right s.same t.same }

  pub back : {P Q : Point} → Same P Q → Same Q P
  back {P} {Q} s = record { left = s.right; right = s.left; same = L.AreSame-sym p d field P Q s.same }

  pub itself : {P : Point} → IsPoint p d P → Same P P
  itself {P} a = record { left = a; right = a; same = L.AreSame-refl p d field P }

  pub equal : {P Q : Point} → IsPoint p d P → P ≡ Q → Same P Q
  equal {P} a e = subst (λ X. Same P X) e (itself a)

  pub is_sum : {P Q : Point} → IsPoint p d P → IsPoint p d Q → IsPoint p d (sum P Q)
  is_sum {P} {Q} a b = L.IsPoint-sum p d field curve P Q a b

  pub is_negative : {P : Point} → IsPoint p d P → IsPoint p d (negative P)
  is_negative {P} a = L.IsPoint-negative p d field P a

  pub is_neutral : IsPoint p d neutral
  is_neutral = L.IsPoint-neutral p d field

  pub sums : {P Q R S : Point} → Same P Q → Same R S → Same (sum P R) (sum Q S)
  sums {P} {Q} {R} {S} s t =
      let one : Same (sum P R) (sum Q R) = record {
        left = is_sum s.left t.left;
        right = is_sum s.right t.left;
        same = L.same_left p d field P Q R s.left s.right s.same;
      } in
      let two : Same (sum Q R) (sum Q S) = record {
        left = is_sum s.right t.left;
        right = is_sum s.right t.right;
        same = L.same_right p d field R S Q t.left t.right t.same;
      } in
      one ▸ two

  pub negatives : {P Q : Point} → Same P Q → Same (negative P) (negative Q)
  negatives {P} {Q} s = record {
    left = is_negative s.left;
    right = is_negative s.right;
    same = L.same_negative p d field P Q s.same;
  }

  pub turn : {P Q : Point} → IsPoint p d P → IsPoint p d Q → Same (sum P Q) (sum Q P)
  turn {P} {Q} a b = equal (is_sum a b) (L.commutative p d field P Q)

  pub regroup : {P Q R : Point} → IsPoint p d P → IsPoint p d Q → IsPoint p d R → Same (sum (sum P Q) R) (sum P (sum Q R))
  regroup {P} {Q} {R} a b c = record {
    left = is_sum (is_sum a b) c;
    right = is_sum a (is_sum b c);
    same = L.associative p d field P Q R a b c;
  }

  pub plus_none : {P : Point} → IsPoint p d P → Same (sum P neutral) P
  plus_none {P} a = record { left = is_sum a is_neutral; right = a; same = L.neutral_right p d field P }

  pub none_plus : {P : Point} → IsPoint p d P → Same (sum neutral P) P
  none_plus a = turn is_neutral a ▸ plus_none a

  pub gone : {P : Point} → IsPoint p d P → Same (sum P (negative P)) neutral
  gone {P} a = record { left = is_sum a (is_negative a); right = is_neutral; same = L.inverse_right p d field P a }

  pub doubled : {P : Point} → IsPoint p d P → Same (double_of p P) (sum P P)
  doubled {P} a = record {
    left = L.IsPoint-double p d field curve P a;
    right = is_sum a a;
    same = L.double_same p d field curve P a;
  }

  pub doubles : {P Q : Point} → Same P Q → Same (double_of p P) (sum Q Q)
  doubles s = doubled s.left ▸ sums s s

  pub four : {P Q R S : Point} → IsPoint p d P → IsPoint p d Q → IsPoint p d R → IsPoint p d S
      → Same (sum (sum P Q) (sum R S)) (sum (sum P R) (sum Q S))
  four a b c e =
      regroup a b (is_sum c e)
      ▸ sums (itself a) (back (regroup b c e) ▸ sums (turn b c) (itself e) ▸ regroup c b e)
      ▸ back (regroup a c (is_sum b e))

  pub is_repeat : {P : Point} (n : ℕ) → IsPoint p d P → IsPoint p d (repeat n P)
  unfolding repeat_of
  is_repeat zero a = is_neutral
  is_repeat (suc n) a = is_sum (is_repeat n a) a

  pub repeats : {P Q : Point} (n : ℕ) → Same P Q → Same (repeat n P) (repeat n Q)
  unfolding repeat_of
  repeats zero s = itself is_neutral
  repeats (suc n) s = sums (repeats n s) s

  pub repeat_one : {P : Point} → IsPoint p d P → Same (repeat 1 P) P
  unfolding repeat_of
  repeat_one a = none_plus a

  pub repeat_more : {P : Point} (n : ℕ) → IsPoint p d P → Same (repeat (suc n) P) (sum (repeat n P) P)
  unfolding repeat_of
  repeat_more n a = itself (is_sum (is_repeat n a) a)

  pub repeat_plus : {P : Point} (i j : ℕ) → IsPoint p d P → Same (repeat (i + j) P) (sum (repeat i P) (repeat j P))
  unfolding repeat_of
  repeat_plus {P} i zero a = rw (add-zero i) (back (plus_none (is_repeat i a)))
  repeat_plus {P} i (suc j) a =
      rw (add-suc i j) (sums (repeat_plus i j a) (itself a) ▸ regroup (is_repeat i a) (is_repeat j a) a)

  pub repeat_sum : {P Q : Point} (n : ℕ) → IsPoint p d P → IsPoint p d Q
      → Same (repeat n (sum P Q)) (sum (repeat n P) (repeat n Q))
  unfolding repeat_of
  repeat_sum zero a b = back (plus_none is_neutral)
  repeat_sum (suc n) a b = sums (repeat_sum n a b) (itself (is_sum a b)) ▸ four (is_repeat n a) (is_repeat n b) a b

  pub repeat_times : {P : Point} (i j : ℕ) → IsPoint p d P → Same (repeat (i * j) P) (repeat i (repeat j P))
  unfolding repeat_of
  repeat_times {P} zero j a = let e : 0 * j ≡ 0 = omega arith in rw e (itself is_neutral)
  repeat_times {P} (suc i) j a =
      let e : suc i * j ≡ i * j + j = omega arith in
      rw e (repeat_plus (i * j) j a ▸ sums (repeat_times i j a) (itself (is_repeat j a)))

  -- the only one that a point and another give the neutral point
  pub alone : {P Q : Point} → IsPoint p d P → IsPoint p d Q → Same (sum P Q) neutral → Same Q (negative P)
  alone a b s =
      back (none_plus b) ▸ sums (back (gone a) ▸ turn a (is_negative a)) (itself b)
      ▸ regroup (is_negative a) a b ▸ sums (itself (is_negative a)) s ▸ plus_none (is_negative a)

  pub repeat_neutral : (n : ℕ) → Same (repeat n neutral) neutral
  unfolding repeat_of
  repeat_neutral zero = itself is_neutral
  repeat_neutral (suc n) = sums (repeat_neutral n) (itself is_neutral) ▸ plus_none is_neutral

  pub repeat_negative : {P : Point} (n : ℕ) → IsPoint p d P → Same (repeat n (negative P)) (negative (repeat n P))
  repeat_negative n a =
      alone (is_repeat n a) (is_repeat n (is_negative a))
      (back (repeat_sum n a (is_negative a)) ▸ repeats n (gone a) ▸ repeat_neutral n)

  -- the definition's multiple
  halves : {P M : Point} (n bit half : ℕ) → IsPoint p d P → n ≡ half + half + bit → bit < 2 → Same M (repeat half P)
      → Same (step_of p k P bit M) (repeat n P)
  unfolding step_of
  halves {P} n zero half a e lt s =
      let back_e : half + half ≡ n = omega arith in
      doubles s ▸ back (repeat_plus half half a) ▸ equal (is_repeat (half + half) a) (ap (λ x. repeat x P) back_e)
  halves {P} n (suc zero) half a e lt s =
      let back_e : suc (half + half) ≡ n = omega arith in
      sums (doubles s ▸ back (repeat_plus half half a)) (itself a) ▸ back (repeat_more (half + half) a)
      ▸ equal (is_repeat (suc (half + half)) a) (ap (λ x. repeat x P) back_e)
  halves n (suc (suc bit)) half a e lt s = absurd (omega arith)

  repeat_none : (P : Point) → Same neutral (repeat 0 P)
  unfolding repeat_of
  repeat_none P = itself is_neutral

  steps : {P : Point} (count n : ℕ) → IsPoint p d P → n < 2 ^ count → Same (steps_of p k P count n neutral) (repeat n P)
  unfolding steps_of
  steps {P} zero n a h =
      let e : n ≡ 0 = omega arith in
      rw e (repeat_none P)
  steps {P} (suc count) n a h =
      let two = two-pow-succ count in
      halves n (n % 2) (n / 2) a (omega arith) (omega arith) (steps count (n / 2) a (omega arith))

  pub multiple : {P : Point} (count n : ℕ) → IsPoint p d P → n < 2 ^ count → Same (multiple_of p k count n P) (repeat n P)
  unfolding multiple_of
  multiple count n a h = steps count n a h

  -- [s]B = R + [c]A where [s]B + [c](-A) = R
  pub equation : {B A R J : Point} (s c : ℕ) → IsPoint p d B → IsPoint p d A → IsPoint p d R → s < 2 ^ 256 → c < 2 ^ 256
      → Same J (sum (repeat s B) (repeat c (negative A)))
      → AreSame p J R ↔ AreSame p (multiple_of p k 256 s B) (sum R (multiple_of p k 256 c A))
  equation {B} {A} {R} {J} s c b a r hs hc j =
      let left = multiple 256 s b hs in
      let right = multiple 256 c a hc in
      let m : IsPoint p d (negative (repeat c A)) = is_negative (is_repeat c a) in
      let joint : Same J (sum (repeat s B) (negative (repeat c A))) =
      j ▸ sums (itself (is_repeat s b)) (repeat_negative c a) in (
        λ h.
            let hit : Same J R = record { left = j.left; right = r; same = h } in
            let all = left ▸ back (plus_none (is_repeat s b)) ▸ sums (itself (is_repeat s b))
            (back (gone (is_repeat c a)) ▸ turn (is_repeat c a) m)
            ▸ back (regroup (is_repeat s b) m (is_repeat c a)) ▸ sums (back joint ▸ hit) (back right) in
            all.same,
        λ h.
            let hit : Same (multiple_of p k 256 s B) (sum R (multiple_of p k 256 c A)) =
            record { left = left.left; right = is_sum r right.left; same = h } in
            let all = joint ▸ sums (back left ▸ hit ▸ sums (itself r) right) (itself m) ▸ regroup r (is_repeat c a) m
            ▸ sums (itself r) (gone (is_repeat c a)) ▸ plus_none r in
            all.same,
      )
