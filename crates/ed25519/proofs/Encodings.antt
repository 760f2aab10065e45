-- Bytes encode a point of the curve if they hold its y and the lowest bit of its x.
use Rattle.std.proofs.Common.{◌≡◌, ℕ, suc, ◌+◌, ◌-◌, ◌*◌, ◌/◌, ◌%◌, ◌^◌, ◌<◌, ◌⊎◌, inl, inr, Bool, true, false, eqb}
use Rattle.std.proofs.Common.{List, Option, Some, None, zero}
use Rattle.std.proofs.Common.{refl, sym, ap, subst, ◌∙◌, arith}
use Rattle.std.specs.Prelude.{◌↔◌, IsTrue, ◌==◌}
use Rattle.std.proofs.Math.Bool.{beq}
use Rattle.std.proofs.Math.Nat.{mod-eq_of_lt, mod-mod, add-mul-mod_self_left}
use Rattle.std.proofs.lemmas.Nat.{mod_below}
use Rattle.std.proofs.lemmas.Bool.{cases_lt}
use Rattle.std.proofs.lemmas.Bool.Decides.{eqb_tells}
use Rattle.limbs.proofs.Congruences.{add_alike, mul_alike}
use Rattle.residues.specs.Modulo.{plus, minus, times, power}
use Rattle.residues.specs.Bytes.{little_endian}
use Rattle.edwards.specs.Edwards.{Point, AreSame}
use Rattle.edwards.specs.Group.{Alike, IsPoint}
use Rattle.edwards.proofs.Affine as A
use Rattle.edwards.proofs.Laws.{cancel}
use Rattle.algebra.specs.Inverses.{inverse}
use Rattle.algebra.proofs.Pocklington.{pow_alike}
use Rattle.algebra.proofs.PrimeInverses.{power_inverse}
use Rattle.ed25519.specs.Ed25519.{p, d, u_of, v_of, candidate, root_of, signed, point_at, point_of, decoded, IsEquation}
use Rattle.ed25519.specs.private_clauses.Encodings.{IsEncoding, IsCommitment}
use Rattle.ed25519.proofs.Curve.{prime, field, positive, half_is, root_found, IsRoot, IsPoint-decoded}
use Rattle.ed25519.proofs.Roots.{root_first, root_second, signed_none, signed_same, signed_other, point_not_below, point_below}
use Rattle.ed25519.proofs.Roots.{point_found, some_same, none_some}
use Rattle.ed25519.proofs.SquareRoots.{candidate_square, same_squares, cube_is, seventh_is}

-- w + u = 0
opposite : (w u : ℕ) → w < p → u < p → Alike p (w + u) 0 → w ≡ minus p 0 u
unfolding minus
opposite w u lw lu h =
    let r : u % p ≡ u = mod-eq_of_lt lu in
    sym (mod-eq_of_lt lw) ∙ sym (add-mul-mod_self_left w p 1)
    ∙ ap (λ z. z % p) (let k : w + p * 1 ≡ (w + u) + (p - u % p) = omega arith in k)
    ∙ add_alike p (w + u) 0 (p - u % p) (p - u % p) h refl

same_below : (a b : ℕ) → a < p → b < p → Alike p a b → a ≡ b
same_below a b la lb h = sym (mod-eq_of_lt la) ∙ h ∙ mod-eq_of_lt lb

-- 0 - x for x above 0
minus_some : (x : ℕ) → 0 < x → x < p → minus p 0 x ≡ p - x
unfolding minus
minus_some x s l =
    let r : x % p ≡ x = mod-eq_of_lt l in
    rw r (let k : 0 + (p - x) ≡ p - x = omega arith in rw k (mod-eq_of_lt (omega arith)))

minus_none_is : minus p 0 0 ≡ 0
unfolding minus p
minus_none_is = refl

u_below : (y : ℕ) → u_of y < p
unfolding u_of minus
u_below y = mod_below _ p positive

times_below : (a b : ℕ) → times p a b < p
unfolding times
times_below a b = mod_below (a * b) p positive

product_is : (v c : ℕ) → Alike p (times p v (times p c c)) (v * (c * c))
unfolding times
product_is v c = mod-mod (v * ((c * c) % p)) p ∙ mul_alike p v v ((c * c) % p) (c * c) refl (mod-mod (c * c) p)

minus_one_apart : Alike p (plus p d 1) 0 → ⊥
unfolding p d plus
minus_one_apart e = cc

-- v is never 0, since d is not -1
v_apart : (y x : ℕ) → IsRoot y x → Alike p (v_of y) 0 → ⊥
unfolding u_of v_of
v_apart y x h none = A.v_apart p d field x y minus_one_apart h none

form : p ≡ 8 * ((p - 5) / 8) + 5
unfolding p
form = refl

power_is : (a n : ℕ) → Alike p (power p a n) (a ^ n)
unfolding power
power_is a n = mod-mod (a ^ n) p

times_is : (a b : ℕ) → Alike p (times p a b) (a * b)
unfolding times
times_is a b = mod-mod (a * b) p

candidate_is : (u v : ℕ) → Alike p (candidate u v) (u * power p v 3 * (u * power p v 7) ^ ((p - 5) / 8))
unfolding candidate
candidate_is u v =
    let m = times p u (power p v 7) in
    let n = (p - 5) / 8 in
    times_is (times p u (power p v 3)) (power p m n)
    ∙ mul_alike p (times p u (power p v 3)) (u * power p v 3) (power p m n) ((u * power p v 7) ^ n) (times_is u (power p v 3))
    (power_is m n ∙ pow_alike p m (u * power p v 7) n (times_is u (power p v 7)))

third_is : (v : ℕ) → Alike p (power p v 3) (v * v * v)
unfolding power
third_is v = mod-mod (v ^ 3) p ∙ ap (λ z. z % p) (cube_is v)

power_seven : (v : ℕ) → Alike p (power p v 7) (v * (power p v 3 * power p v 3))
unfolding power
power_seven v =
    mod-mod (v ^ 7) p ∙ ap (λ z. z % p) (seventh_is v)
    ∙ mul_alike p v v (v ^ 3 * v ^ 3) (v ^ 3 % p * (v ^ 3 % p)) refl
    (mul_alike p (v ^ 3) (v ^ 3 % p) (v ^ 3) (v ^ 3 % p) (sym (mod-mod (v ^ 3) p)) (sym (mod-mod (v ^ 3) p)))

-- the root that the candidate leads to
record Found (y : ℕ) : Type 0 where
  pub root : ℕ
  pub is_root : root_of (u_of y) (v_of y) (candidate (u_of y) (v_of y)) ≡ Some root
  pub below : root < p

candidate_below : (u v : ℕ) → candidate u v < p
unfolding candidate
candidate_below u v = times_below (times p u (power p v 3)) (power p (times p u (power p v 7)) ((p - 5) / 8))

found : (y x : ℕ) → IsRoot y x → Found y
found y x h = go (eqb_tells w u) (candidate_square p prime ((p - 5) / 8) form u v x c (power p v 3) (power p v 7)
    (sym (product_is v x) ∙ h) (v_apart y x h) (third_is v) (power_seven v) (candidate_is u v))
  where
    u : ℕ
    u = u_of y

    v : ℕ
    v = v_of y

    c : ℕ
    c = candidate u v

    w : ℕ
    w = times p v (times p c c)

    first : w ≡ u → Found y
    first e = record { root = c; is_root = sym (root_first u v c w refl e); below = candidate_below u v }

    second : (w ≡ u → ⊥) → Alike p (v * (c * c) + u) 0 → Found y
    second n h =
        let r = times p c (power p 2 ((p - 1) / 4)) in
        let other : w ≡ minus p 0 u =
        opposite w u (times_below v (times p c c)) (u_below y) (add_alike p w (v * (c * c)) u u (product_is v c) refl ∙ h) in
        record { root = r; is_root = sym (root_second u v c w r refl n other refl); below = times_below c (power p 2 ((p - 1) / 4)) }

    go : ((w == u) ≡ true × (w ≡ u)) ⊎ ((w == u) ≡ false × (w ≡ u → ⊥))
        → Alike p (v * (c * c)) u ⊎ Alike p (v * (c * c) + u) 0 → Found y
    go (inl t) s = first t.1
    go (inr t) (inl s) = first (same_below w u (times_below v (times p c c)) (u_below y) (product_is v c ∙ s))
    go (inr t) (inr s) = second t.1 s

-- the root is x or its negative
same_root : (y x r : ℕ) → IsRoot y x → IsRoot y r → x < p → r < p → (r ≡ x) ⊎ (r ≡ minus p 0 x)
same_root y x r hx hr lx lr =
    let squares : Alike p (times p r r) (times p x x) =
    cancel p d field (v_of y) (times p r r) (times p x x) (v_apart y x hx) (hr ∙ sym hx) in
    elim (same_squares p prime r x (sym (times_is r r) ∙ squares ∙ times_is x x)) [
      | inl e ↦ inl (same_below r x lr lx e)
      | inr e ↦ inr (opposite r x lr lx e)
    ]

-- the root of this sign is x
signed_is : (sign x r : ℕ) → x < p → x % 2 ≡ sign → (r ≡ x) ⊎ (r ≡ minus p 0 x) → Some x ≡ signed sign (Some r)
signed_is sign x r l e (inl same) =
    rw same (signed_same sign x (λ z s. let h : x % 2 ≡ sign = e in absurd (omega arith)) e)
signed_is sign x r l e (inr other) = elim (cases_lt 0 x) [
  | inr z ↦
      let none : x ≡ 0 = omega arith in
      let r_is : r ≡ x = other ∙ ap (minus p 0) none ∙ minus_none_is ∙ sym none in
      rw r_is (signed_same sign x (λ z s. absurd (omega arith)) e)
  | inl some ↦
      let odd : p ≡ suc ((p - 1) / 2 + (p - 1) / 2) = half_is in
      let r_is : r ≡ p - x = other ∙ minus_some x some l in
      let back : x ≡ minus p 0 r = sym (minus_some r (omega arith) (omega arith) ∙ (let k : p - r ≡ x = omega arith in k)) in
      signed_other sign r x (λ z s. absurd (omega arith)) (λ s. absurd (omega arith)) back
]

-- a signed root has the sign
sign_of : (sign x r : ℕ) → sign < 2 → x < p → signed sign (Some x) ≡ Some r → (r % 2 ≡ sign) × (r < p)
sign_of sign x r ls lx h = elim (eqb_tells (x % 2) sign) [
  | inl a ↦
      let same : x ≡ r = some_same (signed_same sign x (λ z s. let k = a.1 in absurd (omega arith)) a.1 ∙ h) in
      (let k = a.1 in omega arith, omega arith)
  | inr a ↦ elim (eqb_tells x 0) [
    | inl b ↦ absurd (none_some (signed_none sign x (let k = a.1 in let m = b.1 in omega arith) b.1 ∙ h))
    | inr b ↦
        let odd : p ≡ suc ((p - 1) / 2 + (p - 1) / 2) = half_is in
        let n = a.1 in
        let m = b.1 in
        let some : 0 < x = omega arith in
        let other : minus p 0 x ≡ r = some_same (signed_other sign x (minus p 0 x) (λ z s. m z) n refl ∙ h) in
        let is = minus_some x some lx in
        (omega arith, omega arith)
  ]
]

root_below : (u v c r : ℕ) → c < p → root_of u v c ≡ Some r → r < p
unfolding root_of
root_below u v c r l h =
    elim (eqb_tells (times p v (times p c c)) u) [
      | inl a ↦ subst (λ z. z < p) (let e : Some c ≡ Some r = rw a.0 at h in some_same e) l
      | inr a ↦
          let g = rw a.0 at h in
          elim (eqb_tells (times p v (times p c c)) (minus p 0 u)) [
            | inl b ↦
                subst (λ z. z < p)
                (let e : Some (times p c (power p 2 ((p - 1) / 4))) ≡ Some r = rw b.0 at g in some_same e)
                (times_below c (power p 2 ((p - 1) / 4)))
            | inr b ↦ absurd (let e : None ≡ Some r = rw b.0 at g in none_some e)
          ]
    ]

-- a point that was decoded has the y and the sign
record IsFor (y sign : ℕ) (P : Point) : Type 0 where
  pub x : ℕ
  pub sign_is : x % 2 ≡ sign
  pub below : x < p
  pub is : P ≡ record { x = x; y = y; z = 1; t = times p x y }

is_for_signed : (y sign x : ℕ) (P : Point) → sign < 2 → x < p → (o : Option ℕ) → signed sign (Some x) ≡ o
    → point_at y o ≡ Some P → IsFor y sign P
unfolding point_at
is_for_signed y sign x P ls l None e h = absurd (none_some h)
is_for_signed y sign x P ls l (Some r) e h =
    let s = sign_of sign x r ls l e in
    record { x = r; sign_is = s.0; below = s.1; is = sym (some_same h) }

is_for_root : (y sign : ℕ) (P : Point) → sign < 2 → (o : Option ℕ) → ((x : ℕ) → o ≡ Some x → x < p)
    → point_at y (signed sign o) ≡ Some P → IsFor y sign P
unfolding point_at signed
is_for_root y sign P ls None below h = absurd (none_some h)
is_for_root y sign P ls (Some x) below h = is_for_signed y sign x P ls (below x refl) (signed sign (Some x)) refl h

is_for : (y sign : ℕ) (P : Point) → sign < 2 → y < p → point_of y sign ≡ Some P → IsFor y sign P
is_for y sign P ls ly h =
    let u = u_of y in
    let v = v_of y in
    is_for_root y sign P ls (root_of u v (candidate u v)) (λ x e. root_below u v (candidate u v) x (candidate_below u v) e)
    (point_below y sign ly ∙ h)

-- whether a number is odd is compared with a sign
sign_test : (odd : Bool) (x sign : ℕ) → sign < 2 → (IsTrue odd ↔ x % 2 ≡ 1) → IsTrue (beq odd (eqb sign 1)) ↔ x % 2 ≡ sign
sign_test true x zero l o = (λ h. cc, λ h. let k = o.0 refl in absurd (omega arith))
sign_test true x (suc zero) l o = (λ h. o.0 refl, λ h. refl)
sign_test false x zero l o = (λ h. let n : (x % 2 ≡ 1 → ⊥) = λ e. (let k = o.1 e in cc) in omega arith, λ h. refl)
sign_test false x (suc zero) l o = (λ h. cc, λ h. let k = o.1 h in cc)
sign_test odd x (suc (suc s)) l o = absurd (omega arith)

module _ (bytes : List ℕ) (Q : Point) (on : IsPoint p d Q) where
  abbrev y_in : ℕ
  y_in = little_endian bytes % 2 ^ 255

  abbrev sign_in : ℕ
  sign_in = little_endian bytes / 2 ^ 255

  pub encodes : (x : ℕ) → y_in < p → x < p → x % 2 ≡ sign_in → Alike p (times p x Q.z) Q.x → Alike p (times p y_in Q.z) Q.y
      → IsEncoding bytes Q
  unfolding decoded times u_of v_of
  encodes x ly lx s ex ey =
      let root : IsRoot y_in x = A.root_of_point p d field Q x y_in on ex ey in
      let f = found y_in x root in
      let r_root : IsRoot y_in f.root = root_found y_in (candidate (u_of y_in) (v_of y_in)) f.root f.is_root in
      record {
        point = record { x = x; y = y_in; z = 1; t = times p x y_in };
        decodes = sym (point_found y_in sign_in (u_of y_in) (v_of y_in) (candidate (u_of y_in) (v_of y_in)) f.root x ly
            refl refl refl (sym f.is_root)
            (signed_is sign_in x f.root lx s (same_root y_in x f.root root r_root lx f.below)));
        same = record {
          x = ap (λ z. z % p) (let k : Q.x * 1 ≡ Q.x = omega arith in k) ∙ sym ex ∙ mod-mod (x * Q.z) p;
          y = ap (λ z. z % p) (let k : Q.y * 1 ≡ Q.y = omega arith in k) ∙ sym ey ∙ mod-mod (y_in * Q.z) p;
        };
      }

  -- what a point that was decoded says of the bytes
  pub record Holds : Type 0 where
    pub x : ℕ
    pub y_below : y_in < p
    pub x_below : x < p
    pub sign : x % 2 ≡ sign_in
    pub x_is : Alike p (times p x Q.z) Q.x
    pub y_is : Alike p (times p y_in Q.z) Q.y

  by_point : (P : Point) → y_in < p → IsFor y_in sign_in P → AreSame p Q P → Holds
  unfolding times
  by_point P ly f same =
      let r = f.x in
      let x_same : (Q.x * 1) % p ≡ (r * Q.z) % p = ap (λ z. (Q.x * z) % p) (sym (ap (λ R. R.z) f.is)) ∙ same.x
      ∙ ap (λ z. (z * Q.z) % p) (ap (λ R. R.x) f.is) in
      let y_same : (Q.y * 1) % p ≡ (y_in * Q.z) % p = ap (λ z. (Q.y * z) % p) (sym (ap (λ R. R.z) f.is)) ∙ same.y
      ∙ ap (λ z. (z * Q.z) % p) (ap (λ R. R.y) f.is) in
      record {
        x = r;
        y_below = ly;
        x_below = f.below;
        sign = f.sign_is;
        x_is = mod-mod (r * Q.z) p ∙ sym x_same ∙ ap (λ z. z % p) (let k : Q.x * 1 ≡ Q.x = omega arith in k);
        y_is = mod-mod (y_in * Q.z) p ∙ sym y_same ∙ ap (λ z. z % p) (let k : Q.y * 1 ≡ Q.y = omega arith in k);
      }

  pub y_holds : IsEncoding bytes Q → y_in < p
  unfolding decoded
  y_holds e = elim (cases_lt y_in p) [
    | inr h ↦ absurd (none_some (point_not_below y_in sign_in h ∙ e.decodes))
    | inl h ↦ h
  ]

  pub holds : sign_in < 2 → IsEncoding bytes Q → Holds
  unfolding decoded
  holds ls e =
      let h : y_in < p = y_holds e in
      by_point e.point h (is_for y_in sign_in e.point ls h e.decodes) e.same

  -- there is one x
  pub one_x : (x w : ℕ) → x < p → w < p → Alike p (times p x Q.z) Q.x → Alike p (times p w Q.z) Q.x → x ≡ w
  unfolding times
  one_x x w lx lw ex ew =
      let turned : (n : ℕ) → Alike p (times p Q.z n) (times p n Q.z) =
      λ n. ap (λ z. z % p % p) (let k : Q.z * n ≡ n * Q.z = omega arith in k) in
      same_below x w lx lw (cancel p d field Q.z x w on.finite (turned x ∙ ex ∙ sym ew ∙ sym (turned w)))

  x_from : ℕ
  x_from = times p Q.x (inverse p Q.z)

  x_from_is : Alike p (times p x_from Q.z) Q.x
  unfolding x_from times inverse
  x_from_is =
      let i = power p Q.z (p - 2) in
      mod-mod ((Q.x * i) % p * Q.z) p ∙ mul_alike p ((Q.x * i) % p) (Q.x * i) Q.z Q.z (mod-mod (Q.x * i) p) refl
      ∙ ap (λ z. z % p) (let k : Q.x * i * Q.z ≡ Q.x * (Q.z * i) = omega arith in k)
      ∙ mul_alike p Q.x Q.x (Q.z * i) 1 refl (power_inverse p prime Q.z on.finite)
      ∙ ap (λ z. z % p) (let k : Q.x * 1 ≡ Q.x = omega arith in k)

  x_from_below : x_from < p
  unfolding x_from
  x_from_below = times_below Q.x (inverse p Q.z)

  -- if y is the point's, the test of the sign decides
  pub decides : (odd : Bool) (x sign : ℕ) → y_in < p → sign < 2 → sign ≡ sign_in → times p y_in Q.z ≡ Q.y
      → x ≡ times p Q.x (inverse p Q.z) → (IsTrue odd ↔ x % 2 ≡ 1) → IsTrue (beq odd (eqb sign 1)) ↔ IsEncoding bytes Q
  unfolding x_from
  decides odd x sign ly ls s ey ex o =
      let t = sign_test odd x sign ls o in
      let x_is : Alike p (times p x Q.z) Q.x = rw ex x_from_is in
      let below : x < p = rw ex x_from_below in (
        λ h. encodes x ly below (t.0 h ∙ s) x_is (ap (λ z. z % p) ey),
        λ e.
            let k = holds (let z = s in omega arith) e in
            t.1 (ap (λ z. z % 2) (one_x x k.x below k.x_below x_is k.x_is) ∙ k.sign ∙ sym s),
      )

  pub y_same : Q.y < p → sign_in < 2 → IsEncoding bytes Q → times p y_in Q.z ≡ Q.y
  y_same l ls e = let k = holds ls e in same_below (times p y_in Q.z) Q.y (times_below y_in Q.z) l k.y_is

-- bytes that encode the sum are those of an R for which the equation holds
pub committed : (bytes : List ℕ) (key sum : Point) (s c : ℕ)
    → ((P : Point) → IsPoint p d P → AreSame p sum P ↔ IsEquation key P s c)
    → IsEncoding bytes sum ↔ IsCommitment key s c bytes
committed bytes key sum s c by = (
  λ e. record {
    commitment = e.point;
    decodes = e.decodes;
    equation = (by e.point (IsPoint-decoded bytes e.point e.decodes)).0 e.same;
  },
  λ h. record {
    point = h.commitment;
    decodes = h.decodes;
    same = (by h.commitment (IsPoint-decoded bytes h.commitment h.decodes)).1 h.equation;
  },
)
