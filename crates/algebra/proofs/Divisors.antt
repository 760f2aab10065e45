-- Divisors, and what a prime divides.
use Rattle.std.proofs.Common.{◌≡◌, ℕ, zero, suc, ◌+◌, ◌*◌, ◌/◌, ◌%◌, ◌<◌, ◌≤◌, ◌⊎◌, inl, inr, refl, sym, ap, ◌∙◌, arith}
use Rattle.std.proofs.Math.Nat.{mod-eq_of_lt, div-add-mod, mul-mod_right, eq_of_mul-eq-mul_left, mul-le-mul_left}
use Rattle.std.proofs.lemmas.Nat.{mod_below, mul-mod_first}
use Rattle.std.proofs.lemmas.Bool.{cases_lt}
use Rattle.limbs.proofs.Congruences.{add_alike, mul_alike}
use Rattle.algebra.specs.Primes.{IsPrime}

-- from e down to a divisor of n, by the remainders
pub to_divisor : (n : ℕ) (P : ℕ → Type 0) → ((e : ℕ) → 0 < e → P e → P (n % e)) → (fuel e : ℕ) → e < fuel → 0 < e → P e
    → (c : ℕ) × (0 < c) × (c ≤ e) × (n % c ≡ 0) × P c
to_divisor n P step zero e lt pos h = absurd (omega arith)
to_divisor n P step (suc fuel) e lt pos h = elim (cases_lt 0 (n % e)) [
  | inr z ↦ (e, pos, omega arith, omega arith, h)
  | inl l ↦
      let below : n % e < e = mod_below n e pos in
      let r = to_divisor n P step fuel (n % e) (omega arith) l (step e pos h) in
      (r.0, r.1, omega (arith, r.2), r.3, r.4)
]

-- a product of 0 is 0 modulo m, whichever factor is 0
zero_times : (m a b : ℕ) → b % m ≡ 0 % m → (a * b) % m ≡ 0 % m
zero_times m a b h = mul_alike m a a b 0 refl h ∙ ap (λ z. z % m) (let e : a * 0 ≡ 0 = omega arith in e)

module _ (p : ℕ) (prime : IsPrime p) where
  zero-remainder : 0 % p ≡ 0
  zero-remainder = let a = prime.above in mod-eq_of_lt (omega arith)

  -- the remainder of p too
  descends : (b e : ℕ) → 0 < e → (e * b) % p ≡ 0 → ((p % e) * b) % p ≡ 0
  descends b e pos h =
      let split : e * (p / e) + p % e ≡ p = div-add-mod p e in
      let all : (p % e) * b + (p / e) * (e * b) ≡ p * b =
      let q : ℕ = p / e in let r : ℕ = p % e in
      (let k : (p % e) * b + (p / e) * (e * b) ≡ (e * (p / e) + p % e) * b = omega arith in k) ∙ ap (λ z. z * b) split in
      let gone : ((p / e) * (e * b)) % p ≡ 0 % p = zero_times p (p / e) (e * b) (h ∙ sym zero-remainder) in
      let rest : ((p % e) * b + (p / e) * (e * b)) % p ≡ ((p % e) * b + 0) % p =
      add_alike p ((p % e) * b) ((p % e) * b) _ 0 refl gone in
      ap (λ z. z % p) (let k : (p % e) * b ≡ (p % e) * b + 0 = omega arith in k) ∙ sym rest ∙ ap (λ z. z % p) all
      ∙ mul-mod_right p b

  -- Euclid's lemma
  pub euclid : (a b : ℕ) → (a * b) % p ≡ 0 → (a % p ≡ 0) ⊎ (b % p ≡ 0)
  euclid a b h =
      let above = prime.above in
      let below : a % p < p = mod_below a p (omega arith) in
      elim (cases_lt 0 (a % p)) [
        | inr z ↦ inl (omega arith)
        | inl l ↦
            let r = to_divisor p (λ e. (e * b) % p ≡ 0) (descends b) (suc (a % p)) (a % p) (omega arith) l
            (mul-mod_first a b p ∙ h) in
            let c_pos = r.1 in let c_le = r.2 in
            elim (cases_lt 1 r.0) [
              | inl big ↦ absurd (prime.apart r.0 big (omega arith) r.3)
              | inr small ↦
                  let one : r.0 ≡ 1 = omega arith in
                  let e : r.0 * b ≡ b = ap (λ z. z * b) one ∙ (let k : 1 * b ≡ b = omega arith in k) in
                  inr (sym (ap (λ z. z % p) e) ∙ r.4)
            ]
      ]

-- a divisor of a product of two primes, if it is not the product, divides one of them
pub proper : (q l c : ℕ) → IsPrime q → IsPrime l → 0 < c → c < q * l → (q * l) % c ≡ 0 → (q % c ≡ 0) ⊎ (l % c ≡ 0)
proper q l c pq pl pos less h =
    let f : ℕ = (q * l) / c in
    let whole : c * ((q * l) / c) + (q * l) % c ≡ q * l = div-add-mod (q * l) c in
    let cf : c * ((q * l) / c) ≡ q * l = omega arith in
    let qa = pq.above in
    let la = pl.above in
    elim (euclid q pq c ((q * l) / c) (ap (λ z. z % q) cf ∙ mul-mod_right q l)) [
      | inr g ↦
          let g_is : q * (((q * l) / c) / q) + ((q * l) / c) % q ≡ (q * l) / c = div-add-mod ((q * l) / c) q in
          let f_is : (q * l) / c ≡ q * (((q * l) / c) / q) = omega arith in
          let turn : q * (c * (((q * l) / c) / q)) ≡ q * l =
          (let k : q * (c * (((q * l) / c) / q)) ≡ c * (q * (((q * l) / c) / q)) = omega arith in k)
          ∙ ap (λ z. c * z) (sym f_is) ∙ cf in
          let l_is : c * (((q * l) / c) / q) ≡ l = eq_of_mul-eq-mul_left q (omega arith) _ _ turn in
          inr (ap (λ z. z % c) (sym l_is) ∙ mul-mod_right c (((q * l) / c) / q))
      | inl g ↦
          let g_is : q * (c / q) + c % q ≡ c = div-add-mod c q in
          let c_is : c ≡ q * (c / q) = omega arith in
          let turn : q * ((c / q) * ((q * l) / c)) ≡ q * l =
          (let k : q * ((c / q) * ((q * l) / c)) ≡ q * (c / q) * ((q * l) / c) = omega arith in k)
          ∙ ap (λ z. z * ((q * l) / c)) (sym c_is) ∙ cf in
          let l_is : (c / q) * ((q * l) / c) ≡ l = eq_of_mul-eq-mul_left q (omega arith) _ _ turn in
          let divides : l % (c / q) ≡ 0 = ap (λ z. z % (c / q)) (sym l_is) ∙ mul-mod_right (c / q) ((q * l) / c) in
          inl (cofactor (c / q) ((q * l) / c) l_is c_is divides)
    ]
  where
    too_big : (q l k c : ℕ) → c ≡ q * k → l ≤ k → c < q * l → ⊥
    too_big q l k c e h lt = let m = mul-le-mul_left q h in omega arith

    cofactor : (k f : ℕ) → k * f ≡ l → c ≡ q * k → l % k ≡ 0 → q % c ≡ 0
    cofactor zero f e ec div = let above = pl.above in absurd (omega arith)
    cofactor (suc zero) f e ec div =
        let same : c ≡ q * 1 = omega arith in
        let one : q ≡ c * 1 = omega arith in
        ap (λ z. z % c) one ∙ mul-mod_right c 1
    cofactor (suc (suc k)) f e ec div =
        elim (cases_lt (suc (suc k)) l) [
          | inl small ↦ absurd (pl.apart (suc (suc k)) (omega arith) small div)
          | inr big ↦ absurd (too_big q l (suc (suc k)) c ec big less)
        ]
