-- The numbers modulo a prime, and cubics without roots there.
use Rattle.std.proofs.Common.{◌≡◌, ℕ, zero, suc, ◌+◌, ◌-◌, ◌*◌, ◌/◌, ◌%◌, ◌^◌, ◌<◌, ◌≤◌, refl, sym, ap, ◌∙◌, ◌⊎◌, inl}
use Rattle.std.proofs.Common.{inr, arith}
use Rattle.std.proofs.Math.Nat.{mod-mod, mod-eq_of_lt, two-pow-succ, pow-suc, pow-zero, add-mul-mod_self_left}
use Rattle.std.proofs.lemmas.Nat.{pow-add}
use Rattle.std.proofs.lemmas.Bool.{cases_lt}
use Rattle.limbs.proofs.Congruences.{add_alike, mul_alike}
use Rattle.residues.specs.Modulo.{minus, times, power}
use Rattle.algebra.proofs.Symbols.{minus_back, cancel}
use Rattle.algebra.specs.Primes.{IsPrime}
use Rattle.algebra.proofs.Fermat.{fermat}
use Rattle.algebra.proofs.PrimeInverses.{power_inverse}
use Rattle.weierstrass.proofs.Field.{plus_is, times_is}
use Rattle.weierstrass.specs.Group.{IsCurve, IsField, IsUnit, cubic_at}

module _ (p : ℕ) (prime : IsPrime p) where
  pos : 0 < p
  pos = let a = prime.above in omega arith

  zero_left : 0 % p ≡ 0
  zero_left = mod-eq_of_lt pos

  unit_or_zero : (a : ℕ) → IsUnit p a ⊎ (a % p ≡ 0 % p)
  unit_or_zero a = go (cases_lt 0 (a % p))
    where
      go : (0 < a % p) ⊎ (a % p ≤ 0) → IsUnit p a ⊎ (a % p ≡ 0 % p)
      go (inl l) = inl (record {
        inverse = power p a (p - 2);
        is_inverse = power_inverse p prime a (λ e. let z = zero_left in omega arith);
      })
      go (inr l) = inr (let z = zero_left in omega arith)

  pub prime_field : 2 < p → IsField p
  prime_field h = record { above = h; unit_or_zero = unit_or_zero }

-- polynomials of three coefficients, modulo x^3 - 3 x + b
pub record Cubic : Type 0 where
  pub one : ℕ
  pub x : ℕ
  pub xx : ℕ

-- the product, where n is - b
unfoldable pub product : (p n : ℕ) → Cubic → Cubic → Cubic
product p n u v =
    let d3 = u.x * v.xx + u.xx * v.x in
    let d4 = u.xx * v.xx in
    record {
      one = (u.one * v.one + n * d3) % p;
      x = (u.one * v.x + u.x * v.one + 3 * d3 + n * d4) % p;
      xx = (u.one * v.xx + u.x * v.x + u.xx * v.one + 3 * d4) % p;
    }

unfoldable pub next : (p n : ℕ) → ℕ → Cubic → Cubic
unfolding product
next p n zero h = product p n h h
next p n (suc bit) h = product p n (product p n h h) (record { one = 0; x = 1; xx = 0 })

-- x ^ k, by the `count` low bits of k
unfoldable pub power_of : (p n : ℕ) → (count k : ℕ) → Cubic
unfolding next
power_of p n zero k = record { one = 1; x = 0; xx = 0 }
power_of p n (suc count) k = next p n (k % 2) (power_of p n count (k / 2))

-- the value at r
unfoldable value_at : ℕ → Cubic → ℕ
value_at r u = u.one + u.x * r + u.xx * (r * r)

x_value : (r : ℕ) → value_at r (record { one = 0; x = 1; xx = 0 }) ≡ r
unfolding value_at
x_value r = let k : 0 + 1 * r + 0 * (r * r) ≡ r = omega arith in k

one_value : (r : ℕ) → value_at r (record { one = 1; x = 0; xx = 0 }) ≡ 1
unfolding value_at
one_value r = let k : 1 + 0 * r + 0 * (r * r) ≡ 1 = omega arith in k

module _ (p n r : ℕ) (root : (r * r * r) % p ≡ (3 * r + n) % p) where
  product_value : (u v : Cubic) → value_at r (product p n u v) % p ≡ (value_at r u * value_at r v) % p
  unfolding value_at product
  product_value u v =
      let a = u.one in let b = u.x in let c = u.xx in
      let d = v.one in let e = v.x in let f = v.xx in
      let d3 = b * f + c * e in
      let d4 = c * f in
      let s0 = a * d + n * d3 in
      let s1 = a * e + b * d + 3 * d3 + n * d4 in
      let s2 = a * f + b * e + c * d + 3 * d4 in
      let low = a * d + (a * e + b * d) * r + (a * f + b * e + c * d) * (r * r) in
      add_alike p (s0 % p + s1 % p * r) (s0 + s1 * r) (s2 % p * (r * r)) (s2 * (r * r))
      (add_alike p (s0 % p) s0 (s1 % p * r) (s1 * r) (mod-mod s0 p) (mul_alike p (s1 % p) s1 r r (mod-mod s1 p) refl))
      (mul_alike p (s2 % p) s2 (r * r) (r * r) (mod-mod s2 p) refl)
      ∙ ap (λ z. z % p) (let k : (s0 + s1 * r) + s2 * (r * r) ≡ low + (d3 + d4 * r) * (3 * r + n) = omega arith in k)
      ∙ add_alike p low low ((d3 + d4 * r) * (3 * r + n)) ((d3 + d4 * r) * (r * r * r)) refl
      (mul_alike p (d3 + d4 * r) (d3 + d4 * r) (3 * r + n) (r * r * r) refl (sym root))
      ∙ ap (λ z. z % p) (let k : low + (d3 + d4 * r) * (r * r * r) ≡ (a + b * r + c * (r * r))
      * (d + e * r + f * (r * r)) = omega arith in k)

  next_value : (k half bit : ℕ) (h : Cubic) → k ≡ half + half + bit → bit < 2 → value_at r h % p ≡ r ^ half % p
      → value_at r (next p n bit h) % p ≡ r ^ k % p
  unfolding next
  next_value k half zero h e l f =
      product_value h h ∙ mul_alike p (value_at r h) (r ^ half) (value_at r h) (r ^ half) f f
      ∙ ap (λ z. z % p) (sym (pow-add r half half))
      ∙ ap (λ z. r ^ z % p) (let i : half + half ≡ k = omega arith in i)
  next_value k half (suc zero) h e l f =
      product_value (product p n h h) (record { one = 0; x = 1; xx = 0 })
      ∙ mul_alike p (value_at r (product p n h h)) (r ^ (half + half)) (value_at r (record { one = 0; x = 1; xx = 0 })) r
      (product_value h h ∙ mul_alike p (value_at r h) (r ^ half) (value_at r h) (r ^ half) f f
      ∙ ap (λ z. z % p) (sym (pow-add r half half)))
      (ap (λ z. z % p) (x_value r))
      ∙ ap (λ z. z % p) (sym (pow-suc r (half + half))) ∙ ap (λ z. r ^ z % p) (let i : suc (half + half) ≡ k = omega arith in i)
  next_value k half (suc (suc bit)) h e l f = absurd (omega arith)

  power_value : (count k : ℕ) → k < 2 ^ count → value_at r (power_of p n count k) % p ≡ r ^ k % p
  unfolding power_of
  power_value zero k h =
      let none : k ≡ 0 = omega arith in
      ap (λ z. z % p) (one_value r ∙ sym (pow-zero r)) ∙ ap (λ z. r ^ z % p) (sym none)
  power_value (suc count) k h =
      let two = two-pow-succ count in
      next_value k (k / 2) (k % 2) (power_of p n count (k / 2)) (omega arith) (omega arith)
      (power_value count (k / 2) (omega arith))

less_value : (p r : ℕ) (u : Cubic) → 0 < p → value_at r u % p ≡ r % p
    → value_at r (record { one = u.one; x = u.x + (p - 1); xx = u.xx }) % p ≡ 0 % p
unfolding value_at
less_value p r u h e =
    let a = u.one + u.x * r + u.xx * (r * r) in
    let whole : suc (p - 1) ≡ p = omega arith in
    let m = p - 1 in
    ap (λ z. z % p) (let k : u.one + (u.x + (p - 1)) * r + u.xx * (r * r) ≡ (u.one + u.x * r + u.xx * (r * r)) + (p - 1)
    * r = split u.one u.x u.xx (p - 1) r in k)
    ∙ add_alike p a r ((p - 1) * r) ((p - 1) * r) e refl
    ∙ ap (λ z. z % p) (joined (p - 1) r ∙ ap (λ z. z * r) whole) ∙ mul_alike p p 0 r r (mod_self p) refl
    ∙ ap (λ z. z % p) (let k : 0 * r ≡ 0 = omega arith in k)
  where
    split : (a b c m r : ℕ) → a + (b + m) * r + c * (r * r) ≡ (a + b * r + c * (r * r)) + m * r
    split a b c m r = omega arith

    joined : (m r : ℕ) → r + m * r ≡ suc m * r
    joined m r = omega arith

    mod_self : (p : ℕ) → p % p ≡ 0 % p
    mod_self p = ap (λ z. z % p) (let k : p ≡ 0 + p * 1 = omega arith in k) ∙ add-mul-mod_self_left 0 p 1

-- x^p - x has an inverse modulo the cubic, so none of its roots is one of the cubic
pub no_root_of : (p b count : ℕ) (h : IsPrime p) → 2 < p → p < 2 ^ count → (u v : Cubic) → power_of p (minus p 0 b) count p ≡ u
    → product p (minus p 0 b) (record { one = u.one; x = u.x + (p - 1); xx = u.xx }) v ≡ record { one = 1; x = 0; xx = 0 }
    → (r : ℕ) → cubic_at p b r % p ≡ 0 % p → ⊥
unfolding cubic_at
no_root_of p b count h above fits u v power_is inverse_is r zero_there =
    let n = minus p 0 b in
    let positive : 0 < p = omega arith in
    let cube = times p r (times p r r) in
    let cube_is : cube % p ≡ (r * r * r) % p =
    times_is p r (times p r r) ∙ mul_alike p r r (times p r r) (r * r) refl (times_is p r r)
    ∙ ap (λ z. z % p) (let k : r * (r * r) ≡ r * r * r = omega arith in k) in
    let less = minus p cube (times p 3 r) in
    let less_is : less % p ≡ n % p =
    cancel p positive less n b (sym (plus_is p less b) ∙ zero_there ∙ sym (minus_back p positive 0 b)) in
    let root : (r * r * r) % p ≡ (3 * r + n) % p =
    sym cube_is ∙ sym (minus_back p positive cube (times p 3 r)) ∙ add_alike p less n (times p 3 r) (3 * r) less_is
    (times_is p 3 r)
    ∙ ap (λ z. z % p) (let k : n + 3 * r ≡ 3 * r + n = omega arith in k) in
    let w : Cubic = record { one = u.one; x = u.x + (p - 1); xx = u.xx } in
    let u_is : value_at r u % p ≡ r % p =
    ap (λ z. value_at r z % p) (sym power_is) ∙ power_value p n r root count p fits ∙ fermat p h r in
    let w_is : value_at r w % p ≡ 0 % p = less_value p r u positive u_is in
    let one_is : 1 % p ≡ 0 % p =
    ap (λ z. z % p) (sym (one_value r)) ∙ ap (λ z. value_at r z % p) (sym inverse_is) ∙ product_value p n r root w v
    ∙ mul_alike p (value_at r w) 0 (value_at r v) (value_at r v) w_is refl
    ∙ ap (λ z. z % p) (let k : 0 * value_at r v ≡ 0 = omega arith in k) in
    let one : 1 % p ≡ 1 = mod-eq_of_lt (let k : 1 < p = omega arith in k) in
    let none : 0 % p ≡ 0 = mod-eq_of_lt positive in
    omega arith

-- the curve of a prime p and b
pub curve_of : (p b count : ℕ) (h : IsPrime p) → 2 < p → p < 2 ^ count → (u v : Cubic) → power_of p (minus p 0 b) count p ≡ u
    → product p (minus p 0 b) (record { one = u.one; x = u.x + (p - 1); xx = u.xx }) v ≡ record { one = 1; x = 0; xx = 0 }
    → IsCurve p b
curve_of p b count h above fits u v power_is inverse_is = record {
  field = prime_field p h above;
  no_root = no_root_of p b count h above fits u v power_is inverse_is;
}
