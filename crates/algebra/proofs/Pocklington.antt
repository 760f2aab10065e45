-- A number is a prime where some power has an order whose square is above it (Pocklington).
use Rattle.std.proofs.Common.{◌≡◌, ℕ, zero, suc, ◌+◌, ◌-◌, ◌*◌, ◌/◌, ◌%◌, ◌^◌, ◌<◌, ◌≤◌, inl, inr, refl, sym, ap, ◌∙◌, arith}
use Rattle.std.proofs.Math.Nat.{mod-mod, mod-eq_of_lt, div-add-mod, mul-mod_left, pow-zero, pow-suc}
use Rattle.std.proofs.lemmas.Nat.{mod_below, pow-add, pow-mod, mul-le}
use Rattle.std.proofs.lemmas.Bool.{cases_order}
use Rattle.residues.specs.Modulo.{power}
use Rattle.residues.proofs.Powers.{pow-pow}
use Rattle.limbs.proofs.Congruences.{add_alike, mul_alike}
use Rattle.algebra.proofs.Alike.{more_alike}
use Rattle.algebra.specs.Primes.{IsPrime}
use Rattle.algebra.proofs.Divisors.{to_divisor, proper}
use Rattle.algebra.proofs.Holes.{pigeonhole}

pub one-pow : (k : ℕ) → 1 ^ k ≡ 1
one-pow zero = pow-zero 1
one-pow (suc k) = pow-suc 1 k ∙ ap (λ z. z * 1) (one-pow k)

pub pow_alike : (m a b k : ℕ) → a % m ≡ b % m → a ^ k % m ≡ b ^ k % m
pow_alike m a b k h = sym (pow-mod a k m) ∙ ap (λ z. z ^ k % m) h ∙ pow-mod b k m

-- powers of what is 1
pub one_pow_alike : (m a k : ℕ) → a % m ≡ 1 % m → a ^ k % m ≡ 1 % m
one_pow_alike m a k h = pow_alike m a 1 k h ∙ ap (λ z. z % m) (one-pow k)

-- modulo a divisor too
pub down : (n r x y : ℕ) → n % r ≡ 0 → x % n ≡ y % n → x % r ≡ y % r
down n r x y div e =
    to x ∙ ap (λ z. z % r) e ∙ sym (to y)
  where
    to : (z : ℕ) → z % r ≡ (z % n) % r
    to z =
        let whole : r * (n / r) + n % r ≡ n = div-add-mod n r in
        let n_is : n ≡ r * (n / r) = omega arith in
        let split : n * (z / n) + z % n ≡ z = div-add-mod z n in
        let f : z ≡ z % n + r * ((n / r) * (z / n)) =
        sym split ∙ ap (λ k. k * (z / n) + z % n) n_is
        ∙ (let k : r * (n / r) * (z / n) + z % n ≡ z % n + r * ((n / r) * (z / n)) = omega arith in k) in
        ap (λ k. k % r) f ∙ more_alike r (z % n) ((n / r) * (z / n))

module _ (r g q l : ℕ) (above : 1 < r) (pq : IsPrime q) (pl : IsPrime l)
    (whole : g ^ (q * l) % r ≡ 1 % r) (not_q : g ^ q % r ≡ 1 % r → ⊥) (not_l : g ^ l % r ≡ 1 % r → ⊥) where
  descends : (e : ℕ) → 0 < e → g ^ e % r ≡ 1 % r → g ^ (q * l % e) % r ≡ 1 % r
  descends e pos h =
      let k : ℕ = q * l / e in
      let split : e * (q * l / e) + q * l % e ≡ q * l = div-add-mod (q * l) e in
      let parts : g ^ (q * l) ≡ (g ^ e) ^ (q * l / e) * g ^ (q * l % e) =
      ap (λ z. g ^ z) (sym split) ∙ pow-add g (e * (q * l / e)) (q * l % e)
      ∙ ap (λ z. z * g ^ (q * l % e)) (sym (pow-pow g e (q * l / e))) in
      let one : g ^ (q * l) % r ≡ (1 * g ^ (q * l % e)) % r =
      ap (λ z. z % r) parts ∙ mul_alike r _ 1 (g ^ (q * l % e)) _ (one_pow_alike r (g ^ e) (q * l / e) h) refl in
      ap (λ z. z % r) (let G = g ^ (q * l % e) in let k : G ≡ 1 * G = omega arith in k) ∙ sym one ∙ whole

  -- a power of a power of 1
  up : (c m : ℕ) → m % c ≡ 0 → g ^ c % r ≡ 1 % r → g ^ m % r ≡ 1 % r
  up c m div h =
      let split : c * (m / c) + m % c ≡ m = div-add-mod m c in
      let e : c * (m / c) ≡ m = omega arith in
      ap (λ z. g ^ z % r) (sym e) ∙ ap (λ z. z % r) (sym (pow-pow g c (m / c))) ∙ one_pow_alike r (g ^ c) (m / c) h

  -- no power before is 1
  order : (e : ℕ) → 0 < e → e < q * l → g ^ e % r ≡ 1 % r → ⊥
  order e pos less h =
      let d = to_divisor (q * l) (λ c. g ^ c % r ≡ 1 % r) descends (suc e) e (omega arith) pos h in
      let le = d.2 in
      elim (proper q l d.0 pq pl d.1 (omega arith) d.3) [ inl x ↦ not_q (up d.0 q x d.4) | inr x ↦ not_l (up d.0 l x d.4) ]

  later : (i j : ℕ) → i < j → j < q * l → g ^ i % r ≡ g ^ j % r → ⊥
  later i j lt below h =
      let e1 : i + (q * l - i) ≡ q * l = omega arith in
      let e2 : j + (q * l - i) ≡ q * l + (j - i) = omega arith in
      let one : (g ^ i * g ^ (q * l - i)) % r ≡ (g ^ j * g ^ (q * l - i)) % r = mul_alike r _ _ _ _ h refl in
      let left : (g ^ i * g ^ (q * l - i)) % r ≡ 1 % r = ap (λ z. z % r) (sym (pow-add g i (q * l - i))
      ∙ ap (λ z. g ^ z) e1) ∙ whole in
      let right : (g ^ j * g ^ (q * l - i)) % r ≡ g ^ (j - i) % r =
      ap (λ z. z % r) (sym (pow-add g j (q * l - i)) ∙ ap (λ z. g ^ z) e2 ∙ pow-add g (q * l) (j - i))
      ∙ mul_alike r _ 1 _ _ whole refl ∙ ap (λ z. z % r) (let G = g ^ (j - i) in let k : 1 * G ≡ G = omega arith in k) in
      order (j - i) (omega arith) (omega arith) (sym right ∙ sym one ∙ left)

  one_to_one : (i j : ℕ) → i < q * l → j < q * l → g ^ i % r ≡ g ^ j % r → i ≡ j
  one_to_one i j a b e = elim (cases_order i j) [
    | inl s ↦ s
    | inr d ↦ elim d [ inl lt ↦ absurd (later i j lt b e) | inr lt ↦ absurd (later j i lt a (sym e)) ]
  ]

  enough : q * l ≤ r
  enough = pigeonhole (q * l) r (λ i. g ^ i % r) (λ i h. mod_below (g ^ i) r (omega arith)) one_to_one

module _ (n q l g gq gl u v : ℕ) (above : 1 < n) (pq : IsPrime q) (pl : IsPrime l) (room : n < (q * l) * (q * l))
    (whole : power n g (q * l) ≡ 1) (gq_is : power n g q ≡ gq) (gl_is : power n g l ≡ gl)
    (u_is : ((gq + (n - 1)) * u) % n ≡ 1) (v_is : ((gl + (n - 1)) * v) % n ≡ 1) where
  -- what is 1 less than a unit is not 1
  not_one : (r k h w : ℕ) → 1 < r → n % r ≡ 0 → power n g k ≡ h → ((h + (n - 1)) * w) % n ≡ 1 → g ^ k % r ≡ 1 % r → ⊥
  unfolding power
  not_one r k h w big div h_is w_is e =
      let one_n : 1 % n ≡ 1 = mod-eq_of_lt above in
      let one_r : 1 % r ≡ 1 = mod-eq_of_lt big in
      let none : 0 % r ≡ 0 = mod-eq_of_lt (omega arith) in
      let h1 : h % r ≡ 1 % r = down n r h (g ^ k) div (ap (λ z. z % n) (sym h_is) ∙ mod-mod (g ^ k) n) ∙ e in
      let n0 : n % r ≡ 0 % r = div ∙ sym none in
      let w1 : ((h + (n - 1)) * w) % r ≡ 1 % r = down n r _ 1 div (w_is ∙ sym one_n) in
      let sum_is : 1 + (n - 1) ≡ n = omega arith in
      let zero_is : (h + (n - 1)) % r ≡ 0 % r = add_alike r h 1 (n - 1) (n - 1) h1 refl ∙ ap (λ z. z % r) sum_is ∙ n0 in
      let w0 : ((h + (n - 1)) * w) % r ≡ 0 % r = mul_alike r _ 0 w w zero_is refl
      ∙ ap (λ z. z % r) (let k : 0 * w ≡ 0 = omega arith in k) in
      let clash : 1 ≡ 0 = sym one_r ∙ sym w1 ∙ w0 ∙ none in
      omega arith

  divisor : (r : ℕ) → 1 < r → n % r ≡ 0 → q * l ≤ r
  unfolding power
  divisor r big div =
      let one_n : 1 % n ≡ 1 = mod-eq_of_lt above in
      enough r g q l big pq pl (down n r (g ^ (q * l)) 1 div (whole ∙ sym one_n))
      (not_one r q gq u big div gq_is u_is) (not_one r l gl v big div gl_is v_is)

  too_big : (s t : ℕ) → q * l ≤ s → q * l ≤ t → s * t ≡ n → ⊥
  too_big s t a b e = let m = mul-le (q * l) (q * l) s t a b in omega arith

  above_quotient : (s t : ℕ) → s * t ≡ n → s < n → 1 < t
  above_quotient s zero e lt = omega arith
  above_quotient s (suc zero) e lt = omega arith
  above_quotient s (suc (suc t)) e lt = omega arith

  pub pocklington : IsPrime n
  pocklington = record {
    above = above;
    apart = λ s big below e.
        let split : s * (n / s) + n % s ≡ n = div-add-mod n s in
        let is : s * (n / s) ≡ n = omega arith in
        let other : n % (n / s) ≡ 0 = let e2 : n ≡ s * (n / s) = sym is in ap (λ z. z % (n / s)) e2 ∙ mul-mod_left s (n / s) in
        too_big s (n / s) (divisor s big e) (divisor (n / s) (above_quotient s (n / s) is below) other) is;
  }
