-- Points of the curve -x^2 + y^2 = 1 + d x^2 y^2 modulo p, and what it means that they are a group.
use Rattle.std.specs.Prelude.{◌≡◌, ℕ, zero, suc, ◌+◌, ◌*◌, ◌^◌, ◌%◌, ◌<◌, ◌⊎◌}
use Rattle.residues.specs.Modulo.{plus, minus, times}
use Rattle.edwards.specs.Edwards.{Point, neutral, sum_of, double_of, multiple_of, AreSame}

-- the two are one residue modulo p
abbrev pub Alike : (p a b : ℕ) → Type 0
Alike p a b = a % p ≡ b % p

-- p is above 2, and a product is 0 only if a factor is
pub record IsField (p : ℕ) : Type 0 where
  pub above_two : 2 < p
  pub factor : (a b : ℕ) → Alike p (a * b) 0 → Alike p a 0 ⊎ Alike p b 0
  pub two : Alike p 2 0 → ⊥

-- -1 is a square, and d is none
pub record IsCurve (p d : ℕ) : Type 0 where
  pub root : ℕ
  pub root_is : Alike p (times p root root) (minus p 0 1)
  pub nonsquare : (a b : ℕ) → Alike p (times p a a) (times p d (times p b b)) → Alike p b 0

-- P is a point of the curve, in extended coordinates (RFC 8032 section 5.1.4)
pub record IsPoint (p d : ℕ) (P : Point) : Type 0 where
  pub finite : Alike p P.z 0 → ⊥
  pub product : Alike p (times p P.x P.y) (times p P.t P.z)
  pub equation : Alike p (times p P.y P.y) (plus p (plus p (times p P.x P.x) (times p P.z P.z)) (times p d (times p P.t P.t)))

-- the point (-x, y)
unfoldable pub negative_of : (p : ℕ) → Point → Point
negative_of p P = record { x = minus p 0 P.x; y = P.y; z = P.z; t = minus p 0 P.t }

-- n times P: the neutral point, and P more each time
unfoldable pub repeat_of : (p k n : ℕ) → Point → Point
repeat_of p k zero P = neutral
repeat_of p k (suc n) P = sum_of p k (repeat_of p k n P) P

-- the sum on the curve with this d
abbrev pub sum_on : (p d : ℕ) → Point → Point → Point
sum_on p d P Q = sum_of p (times p 2 d) P Q

-- n times P on the curve with this d
abbrev pub repeat_on : (p d n : ℕ) → Point → Point
repeat_on p d n P = repeat_of p (times p 2 d) n P

pub record IsGroup (p d : ℕ) : Type 0 where
  -- sums, doubles, negatives and the neutral point are points of the curve, without an exception
  pub sum_closed : (P Q : Point) → IsPoint p d P → IsPoint p d Q → IsPoint p d (sum_on p d P Q)
  pub double_closed : (P : Point) → IsPoint p d P → IsPoint p d (double_of p P)
  pub negative_closed : (P : Point) → IsPoint p d P → IsPoint p d (negative_of p P)
  pub neutral_closed : IsPoint p d neutral
  -- sameness is an equivalence, and sums and negatives respect it
  pub same_reflexive : (P : Point) → AreSame p P P
  pub same_symmetric : (P Q : Point) → AreSame p P Q → AreSame p Q P
  pub same_transitive : (P Q R : Point) → IsPoint p d Q → AreSame p P Q → AreSame p Q R → AreSame p P R
  pub sum_respects : (P Q R : Point) → IsPoint p d P → IsPoint p d Q → AreSame p P Q
      → AreSame p (sum_on p d P R) (sum_on p d Q R)
  pub negative_respects : (P Q : Point) → AreSame p P Q → AreSame p (negative_of p P) (negative_of p Q)
  -- the laws
  pub associative : (P Q R : Point) → IsPoint p d P → IsPoint p d Q → IsPoint p d R
      → AreSame p (sum_on p d (sum_on p d P Q) R) (sum_on p d P (sum_on p d Q R))
  pub commutative : (P Q : Point) → sum_on p d P Q ≡ sum_on p d Q P
  pub neutral_right : (P : Point) → AreSame p (sum_on p d P neutral) P
  pub inverse_right : (P : Point) → IsPoint p d P → AreSame p (sum_on p d P (negative_of p P)) neutral
  pub double_same : (P : Point) → IsPoint p d P → AreSame p (double_of p P) (sum_on p d P P)
  -- multiples are repeated sums, and add
  pub multiple_same : (P : Point) (count n : ℕ) → IsPoint p d P → n < 2 ^ count
      → AreSame p (multiple_of p (times p 2 d) count n P) (repeat_on p d n P)
  pub repeat_plus : (P : Point) (i j : ℕ) → IsPoint p d P
      → AreSame p (repeat_on p d (i + j) P) (sum_on p d (repeat_on p d i P) (repeat_on p d j P))
  pub repeat_times : (P : Point) (i j : ℕ) → IsPoint p d P
      → AreSame p (repeat_on p d (i * j) P) (repeat_on p d i (repeat_on p d j P))
  pub repeat_sum : (P Q : Point) (n : ℕ) → IsPoint p d P → IsPoint p d Q
      → AreSame p (repeat_on p d n (sum_on p d P Q)) (sum_on p d (repeat_on p d n P) (repeat_on p d n Q))
