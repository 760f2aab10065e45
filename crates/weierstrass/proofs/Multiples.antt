-- Multiples of points, and sums of two multiples.
use Rattle.std.proofs.Common.{◌≡◌, ℕ, zero, suc, ◌+◌, ◌/◌, ◌%◌, ◌^◌, ◌<◌, refl, arith}
use Rattle.std.proofs.Math.Nat.{two-pow-succ}
use Rattle.weierstrass.specs.Weierstrass.{Point, infinity, sum_of, double_of, step_of, steps_of, multiple_of}
use Rattle.weierstrass.proofs.PointLemmas.{alike_self, alike_turned, alike_twice}
use Rattle.weierstrass.specs.Group.{times_point, Alike, IsCurve, IsPoint, nowhere, point_at}
use Rattle.weierstrass.specs.private_clauses.Formulas.{joint}
use Rattle.weierstrass.proofs.Sums.{sum_turned, sum_alike, pos}
use Rattle.weierstrass.proofs.Law.{sum_neutral, sum_point, sum_grouped}

module _ (p b : ℕ) (curve : IsCurve p b) where
  less : 0 < p
  less = pos p b curve

  infinity_is : infinity ≡ point_at nowhere
  unfolding infinity
  infinity_is = refl

  pub infinity_point : IsPoint p b infinity
  unfolding infinity
  infinity_point = record { shape = nowhere; on = tt; alike = alike_self p infinity }

  pub neutral_right : (P : Point) → IsPoint p b P → Alike p (sum_of p b P infinity) P
  neutral_right P h = rw infinity_is (sum_neutral p b curve P h)

  pub neutral_left : (P : Point) → IsPoint p b P → Alike p (sum_of p b infinity P) P
  neutral_left P h = rw (sum_turned p b infinity P) (neutral_right P h)

  -- chains of Alike
  after : (P Q R : Point) → Alike p P Q → Alike p Q R → Alike p P R
  after P Q R = alike_twice p P Q R

  back : (P Q : Point) → Alike p P Q → Alike p Q P
  back P Q = alike_turned p P Q

  both : (P P' Q Q' : Point) → Alike p P P' → Alike p Q Q' → Alike p (sum_of p b P Q) (sum_of p b P' Q')
  both P P' Q Q' = sum_alike p less b P P' Q Q'

  pub multiple_point : (n : ℕ) (P : Point) → IsPoint p b P → IsPoint p b (times_point p b n P)
  unfolding times_point
  multiple_point zero P h = infinity_point
  multiple_point (suc n) P h = sum_point p b curve (times_point p b n P) P (multiple_point n P h) h

  -- [m + n]P is [m]P + [n]P
  pub multiples_sum : (m n : ℕ) (P : Point) → IsPoint p b P
      → Alike p (times_point p b (m + n) P) (sum_of p b (times_point p b m P) (times_point p b n P))
  unfolding times_point
  multiples_sum m zero P h =
      let e : m + 0 ≡ m = omega arith in
      rw e (back (sum_of p b (times_point p b m P) infinity) (times_point p b m P)
      (neutral_right (times_point p b m P) (multiple_point m P h)))
  multiples_sum m (suc n) P h =
      let e : m + suc n ≡ suc (m + n) = omega arith in
      let M = times_point p b m P in
      let N = times_point p b n P in
      rw e (after (sum_of p b (times_point p b (m + n) P) P) (sum_of p b (sum_of p b M N) P) (sum_of p b M (sum_of p b N P))
      (both (times_point p b (m + n) P) (sum_of p b M N) P P (multiples_sum m n P h) (alike_self p P))
      (sum_grouped p b curve M N P (multiple_point m P h) (multiple_point n P h) h))

  -- (A + B) + (C + D) is (A + C) + (B + D)
  pub exchanged : (A B C D : Point) → IsPoint p b A → IsPoint p b B → IsPoint p b C → IsPoint p b D
      → Alike p (sum_of p b (sum_of p b A B) (sum_of p b C D)) (sum_of p b (sum_of p b A C) (sum_of p b B D))
  exchanged A B C D ha hb hc hd =
      let s = sum_of p b in
      let bc = sum_point p b curve B C hb hc in
      let cd = sum_point p b curve C D hc hd in
      let bd = sum_point p b curve B D hb hd in
      let e1 : Alike p (s (s A B) (s C D)) (s A (s B (s C D))) = sum_grouped p b curve A B (s C D) ha hb cd in
      let e2 : Alike p (s B (s C D)) (s (s B C) D) = back (s (s B C) D) (s B (s C D)) (sum_grouped p b curve B C D hb hc hd) in
      let e3 : Alike p (s (s B C) D) (s (s C B) D) = rw (sum_turned p b B C) (alike_self p (s (s C B) D)) in
      let e4 : Alike p (s (s C B) D) (s C (s B D)) = sum_grouped p b curve C B D hc hb hd in
      let inner : Alike p (s B (s C D)) (s C (s B D)) =
      after (s B (s C D)) (s (s B C) D) (s C (s B D)) e2 (after (s (s B C) D) (s (s C B) D) (s C (s B D)) e3 e4) in
      let e5 : Alike p (s A (s B (s C D))) (s A (s C (s B D))) = both A A (s B (s C D)) (s C (s B D)) (alike_self p A) inner in
      let e6 : Alike p (s A (s C (s B D))) (s (s A C) (s B D)) = back (s (s A C) (s B D)) (s A (s C (s B D)))
      (sum_grouped p b curve A C (s B D) ha hc bd) in
      after (s (s A B) (s C D)) (s A (s B (s C D))) (s (s A C) (s B D)) e1
      (after (s A (s B (s C D))) (s A (s C (s B D))) (s (s A C) (s B D)) e5 e6)

  -- one step of the definition
  step_is : (Q P : Point) (bit n m : ℕ) → IsPoint p b P → Alike p Q (times_point p b n P) → bit < 2 → m ≡ n + n + bit
      → Alike p (step_of p b P bit Q) (times_point p b m P)
  unfolding step_of double_of times_point
  step_is Q P zero n m h a l e =
      let N = times_point p b n P in
      let f : m ≡ n + n = omega arith in
      rw f (after (sum_of p b Q Q) (sum_of p b N N) (times_point p b (n + n) P) (both Q N Q N a a)
      (back (times_point p b (n + n) P) (sum_of p b N N) (multiples_sum n n P h)))
  step_is Q P (suc zero) n m h a l e =
      let N = times_point p b n P in
      let f : m ≡ suc (n + n) = omega arith in
      rw f (both (sum_of p b Q Q) (times_point p b (n + n) P) P P
      (after (sum_of p b Q Q) (sum_of p b N N) (times_point p b (n + n) P) (both Q N Q N a a)
      (back (times_point p b (n + n) P) (sum_of p b N N) (multiples_sum n n P h)))
      (alike_self p P))
  step_is Q P (suc (suc bit)) n m h a l e = absurd (omega arith)

  steps_are : (count n : ℕ) (P : Point) → IsPoint p b P → n < 2 ^ count
      → Alike p (steps_of p b P count n infinity) (times_point p b n P)
  unfolding steps_of times_point
  steps_are zero n P h l = let z : n ≡ 0 = omega arith in rw z (alike_self p infinity)
  steps_are (suc count) n P h l =
      let two = two-pow-succ count in
      step_is (steps_of p b P count (n / 2) infinity) P (n % 2) (n / 2) n h (steps_are count (n / 2) P h (omega arith))
      (omega arith) (omega arith)

  -- the definition's multiple is P added n times
  pub multiple_is : (count n : ℕ) (P : Point) → IsPoint p b P → n < 2 ^ count
      → Alike p (multiple_of p b count n P) (times_point p b n P)
  unfolding multiple_of
  multiple_is count n P h l = steps_are count n P h l

  -- sums of such
  pub joint_sum : (m m' n n' : ℕ) (P Q S T : Point) → IsPoint p b P → IsPoint p b Q → Alike p S (joint p b m P n Q)
      → Alike p T (joint p b m' P n' Q)
      → Alike p (sum_of p b S T) (joint p b (m + m') P (n + n') Q)
  unfolding joint
  joint_sum m m' n n' P Q S T h k a c =
      let M = times_point p b m P in
      let M' = times_point p b m' P in
      let N = times_point p b n Q in
      let N' = times_point p b n' Q in
      let s = sum_of p b in
      after (s S T) (s (s M N) (s M' N')) (s (times_point p b (m + m') P) (times_point p b (n + n') Q))
      (both S (s M N) T (s M' N') a c)
      (after (s (s M N) (s M' N')) (s (s M M') (s N N')) (s (times_point p b (m + m') P) (times_point p b (n + n') Q))
      (exchanged M N M' N' (multiple_point m P h) (multiple_point n Q k) (multiple_point m' P h) (multiple_point n' Q k))
      (back (s (times_point p b (m + m') P) (times_point p b (n + n') Q)) (s (s M M') (s N N'))
      (both (times_point p b (m + m') P) (s M M') (times_point p b (n + n') Q) (s N N') (multiples_sum m m' P h)
      (multiples_sum n n' Q k))))

  -- twice
  pub joint_double : (m n m' n' : ℕ) (P Q S : Point) → IsPoint p b P → IsPoint p b Q → Alike p S (joint p b m P n Q)
      → m' ≡ m + m → n' ≡ n + n
      → Alike p (double_of p b S) (joint p b m' P n' Q)
  unfolding double_of
  joint_double m n m' n' P Q S h k a e f = rw (e, f) (joint_sum m m n n P Q S S h k a a)

  -- a multiple of P more
  pub joint_first : (m n d m' : ℕ) (P Q S T : Point) → IsPoint p b P → IsPoint p b Q → Alike p S (joint p b m P n Q)
      → Alike p T (times_point p b d P) → m' ≡ m + d
      → Alike p (sum_of p b S T) (joint p b m' P n Q)
  unfolding joint times_point
  joint_first m n d m' P Q S T h k a c e =
      let D = times_point p b d P in
      let z : n + 0 ≡ n = omega arith in
      rw (e, ← z) (joint_sum m d n 0 P Q S T h k a
      (after T D (sum_of p b D infinity) c (back (sum_of p b D infinity) D (neutral_right D (multiple_point d P h)))))

  -- a multiple of Q more
  pub joint_second : (m n d n' : ℕ) (P Q S T : Point) → IsPoint p b P → IsPoint p b Q → Alike p S (joint p b m P n Q)
      → Alike p T (times_point p b d Q) → n' ≡ n + d
      → Alike p (sum_of p b S T) (joint p b m P n' Q)
  unfolding joint times_point
  joint_second m n d n' P Q S T h k a c e =
      let D = times_point p b d Q in
      let z : m + 0 ≡ m = omega arith in
      rw (e, ← z) (joint_sum m 0 n d P Q S T h k a
      (after T D (sum_of p b infinity D) c (back (sum_of p b infinity D) D (neutral_left D (multiple_point d Q k)))))

  -- what the definition of verification asks for
  pub joint_is : (count m n : ℕ) (P Q S : Point) → IsPoint p b P → IsPoint p b Q → m < 2 ^ count → n < 2 ^ count
      → Alike p S (joint p b m P n Q)
      → Alike p S (sum_of p b (multiple_of p b count m P) (multiple_of p b count n Q))
  unfolding joint
  joint_is count m n P Q S h k l r a =
      after S (sum_of p b (times_point p b m P) (times_point p b n Q))
      (sum_of p b (multiple_of p b count m P) (multiple_of p b count n Q)) a
      (back (sum_of p b (multiple_of p b count m P) (multiple_of p b count n Q))
      (sum_of p b (times_point p b m P) (times_point p b n Q))
      (both (multiple_of p b count m P) (times_point p b m P) (multiple_of p b count n Q) (times_point p b n Q)
      (multiple_is count m P h l) (multiple_is count n Q k r)))
