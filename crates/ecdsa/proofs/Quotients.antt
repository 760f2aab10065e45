-- Whether X / Z leaves r modulo n, without the inverse of Z.
use Rattle.std.proofs.Common.{◌≡◌, ℕ, ◌+◌, ◌-◌, ◌*◌, ◌%◌, ◌<◌, ◌≤◌, ◌⊎◌, inl, inr, refl, sym, ap, ◌∙◌, arith}
use Rattle.std.specs.Prelude.{◌≢◌}
use Rattle.std.proofs.Math.Nat.{mod-eq_of_lt, mod-mod, add-mod_right}
use Rattle.std.proofs.lemmas.Nat.{mod_below}
use Rattle.std.proofs.lemmas.Bool.{cases_lt}
use Rattle.limbs.proofs.Congruences.{mul_alike}
use Rattle.residues.specs.Modulo.{plus, minus, times}
use Rattle.weierstrass.specs.Weierstrass.{Point}
use Rattle.algebra.specs.Primes.{IsPrime}
use Rattle.algebra.specs.Inverses.{inverse}
use Rattle.algebra.proofs.PrimeInverses.{power_inverse}
use Rattle.ecdsa.specs.Ecdsa.{HasX}
use Rattle.ecdsa.specs.private_clauses.Sums.{HasSecond}

-- n - 1, and 1 more
pub order_is : (p n l o : ℕ) → 1 < n → n < p → l ≡ minus n 0 1 → o ≡ plus p l 1 → o ≡ n
unfolding minus plus
order_is p n l o above below el eo =
    let one : 1 % n ≡ 1 = mod-eq_of_lt above in
    let less : l ≡ n - 1 = el ∙ ap (λ m. (0 + (n - m)) % n) one
    ∙ ap (λ m. m % n) (let k : 0 + (n - 1) ≡ n - 1 = omega arith in k)
    ∙ mod-eq_of_lt (let k : n - 1 < n = omega arith in k) in
    eo ∙ ap (λ m. m % p) (let k : l + 1 ≡ n = omega arith in k) ∙ mod-eq_of_lt below

pub sum_kept : (p n f s : ℕ) → f + n < p → s ≡ plus p f n → s ≡ f + n
unfolding plus
sum_kept p n f s h e = e ∙ mod-eq_of_lt h

-- a sum of at least n was not reduced
pub sum_whole : (p n f s : ℕ) → f < n → n < p → s ≡ plus p f n → n ≤ s → f + n < p
unfolding plus
sum_whole p n f s fb nb e h = go (cases_lt (f + n) p)
  where
    go : (f + n < p) ⊎ (p ≤ f + n) → f + n < p
    go (inl l) = l
    go (inr l) =
        let x : f + n ≡ (f + n - p) + p = omega arith in
        let y : (f + n) % p ≡ (f + n - p) % p = ap (λ m. m % p) x ∙ add-mod_right (f + n - p) p in
        let z : (f + n - p) % p ≡ f + n - p = mod-eq_of_lt (let k : f + n - p < p = omega arith in k) in
        absurd (omega arith)

module _ (p : ℕ) (prime : IsPrime p) (n : ℕ) (n_below : n < p) (p_below : p < n + n) (R : Point) (x_below : R.x < p)
    (z_below : R.z < p) where
  pos : 0 < p
  pos = let a = prime.above in omega arith

  quotient : ℕ
  quotient = times p R.x (inverse p R.z)

  quotient_below : quotient < p
  unfolding quotient times
  quotient_below = mod_below (R.x * inverse p R.z) p pos

  inverse_is : R.z ≢ 0 → (R.z * inverse p R.z) % p ≡ 1 % p
  unfolding inverse
  inverse_is h =
      power_inverse p prime R.z
      (λ e. let f : R.z % p ≡ R.z = mod-eq_of_lt z_below in let g : 0 % p ≡ 0 = mod-eq_of_lt pos in h (omega arith))

  -- c Z is X
  to_quotient : (c : ℕ) → c < p → R.z ≢ 0 → times p c R.z ≡ R.x → quotient ≡ c
  unfolding quotient times
  to_quotient c l h e =
      let i = inverse p R.z in
      mul_alike p R.x (c * R.z) i i (ap (λ m. m % p) (sym e) ∙ mod-mod (c * R.z) p) refl
      ∙ ap (λ m. m % p) (let k : c * R.z * i ≡ c * (R.z * i) = omega arith in k)
      ∙ mul_alike p c c (R.z * i) 1 refl (inverse_is h) ∙ ap (λ m. m % p) (let k : c * 1 ≡ c = omega arith in k)
      ∙ mod-eq_of_lt l

  from_quotient : (c : ℕ) → R.z ≢ 0 → quotient ≡ c → times p c R.z ≡ R.x
  unfolding quotient times
  from_quotient c h e =
      let i = inverse p R.z in
      mul_alike p c (R.x * i) R.z R.z (ap (λ m. m % p) (sym e) ∙ mod-mod (R.x * i) p) refl
      ∙ ap (λ m. m % p) (let k : R.x * i * R.z ≡ R.x * (R.z * i) = omega arith in k)
      ∙ mul_alike p R.x R.x (R.z * i) 1 refl (inverse_is h) ∙ ap (λ m. m % p) (let k : R.x * 1 ≡ R.x = omega arith in k)
      ∙ mod-eq_of_lt x_below

  module _ (r : ℕ) (r_below : r < n) where
    pub first_has : R.z ≢ 0 → times p r R.z ≡ R.x → HasX p n R r
    unfolding quotient
    first_has h e = record {
      finite = h;
      x = ap (λ m. m % n) (to_quotient r (omega arith) h e) ∙ mod-eq_of_lt r_below;
    }

    -- the other number that leaves r
    pub second_has : R.z ≢ 0 → HasSecond p n R r → HasX p n R r
    unfolding quotient
    second_has h s = record {
      finite = h;
      x = ap (λ m. m % n) (to_quotient (r + n) s.below h s.same) ∙ add-mod_right r n ∙ mod-eq_of_lt r_below;
    }

    pub has_one : HasX p n R r → (times p r R.z ≡ R.x → ⊥) → HasSecond p n R r
    unfolding quotient
    has_one h differs = go (cases_lt quotient n)
      where
        go : (quotient < n) ⊎ (n ≤ quotient) → HasSecond p n R r
        go (inl l) = absurd (differs (from_quotient r h.finite (sym (mod-eq_of_lt l) ∙ h.x)))
        go (inr l) =
            let below : quotient < p = quotient_below in
            let e : quotient % n ≡ r = h.x in
            let x : quotient ≡ (quotient - n) + n = omega arith in
            let y : quotient % n ≡ (quotient - n) % n = ap (λ m. m % n) x ∙ add-mod_right (quotient - n) n in
            let z : (quotient - n) % n ≡ quotient - n = mod-eq_of_lt (let k : quotient - n < n = omega arith in k) in
            let f : quotient ≡ r + n = omega arith in
            record { below = omega arith; same = from_quotient (r + n) h.finite f }
