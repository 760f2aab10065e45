-- Square roots modulo a prime 8 k + 5: a candidate leads to a root if there is one.
use Rattle.std.proofs.Common.{◌≡◌, ℕ, suc, ◌+◌, ◌-◌, ◌*◌, ◌%◌, ◌^◌, ◌<◌, ◌⊎◌, inl, inr, refl, sym, ap, ◌∙◌, arith}
use Rattle.std.proofs.Math.Nat.{mod-eq_of_lt, add-mul-mod_self_left, pow-suc, pow-zero}
use Rattle.std.proofs.lemmas.Nat.{pow-add, mul-pow}
use Rattle.std.proofs.lemmas.Bool.{cases_lt}
use Rattle.limbs.proofs.Congruences.{add_alike, mul_alike}
use Rattle.algebra.specs.Primes.{IsPrime}
use Rattle.algebra.proofs.Fermat.{factor}
use Rattle.algebra.proofs.Pocklington.{pow_alike}
use Rattle.algebra.proofs.PrimeInverses.{fermat_one}
use Rattle.edwards.specs.Group.{Alike}

split_squares : (q a b : ℕ) → (a + q * b) * (a + b) ≡ (a * a + q * (b * b)) + suc q * (a * b)
split_squares q a b = omega arith

one_more : (q c : ℕ) → c + q * c ≡ 0 + suc q * c
one_more q c = omega arith

with_one : (q a b : ℕ) → a + suc q * b ≡ (a + q * b) + b
with_one q a b = omega arith

root_product : (v x w : ℕ) → (v * (x * x)) * (v * (w * w)) ≡ (v * w * x) * (v * w * x)
root_product v x w = omega arith

candidate_product : (u v w t : ℕ) → v * ((u * w * t) * (u * w * t)) ≡ u * ((u * (v * (w * w))) * (t * t))
candidate_product u v w t = omega arith

power_split : (m k : ℕ) → m * (m ^ k * m ^ k) ≡ m ^ (2 * k + 1)
power_split m k =
    ap (λ z. m * z) (sym (pow-add m k k))
    ∙ (let e : m * m ^ (k + k) ≡ m ^ (k + k) * m = omega arith in e)
    ∙ sym (pow-suc m (k + k)) ∙ ap (λ z. m ^ z) (let e : suc (k + k) ≡ 2 * k + 1 = omega arith in e)

power_squared : (s k : ℕ) → (s * s) ^ (2 * k + 1) * (s * s) ^ (2 * k + 1) ≡ s ^ (8 * k + 4)
power_squared s k =
    let j = 2 * k + 1 in
    ap (λ z. z * z) (mul-pow s s j ∙ sym (pow-add s j j)) ∙ sym (pow-add s (j + j) (j + j))
    ∙ ap (λ z. s ^ z) (let e : (2 * k + 1 + (2 * k + 1)) + (2 * k + 1 + (2 * k + 1)) ≡ 8 * k + 4 = omega arith in e)

pub cube_is : (a : ℕ) → a ^ 3 ≡ a * a * a
cube_is a = rw (pow-suc a 2, pow-suc a 1, pow-suc a 0, pow-zero a) (let e : 1 * a * a * a ≡ a * a * a = omega arith in e)

pub seventh_is : (a : ℕ) → a ^ 7 ≡ a * (a ^ 3 * a ^ 3)
seventh_is a = pow-suc a 6 ∙ ap (λ z. z * a) (pow-add a 3 3) ∙ (let c = a ^ 3 in let e : c * c * a ≡ a * (c * c) = omega arith in e)

module _ (p : ℕ) (prime : IsPrime p) where
  some : 0 < p
  some = let a = prime.above in omega arith

  none_is : 0 % p ≡ 0
  none_is = mod-eq_of_lt some

  none_or_some : (a : ℕ) → Alike p a 0 ⊎ (Alike p a 0 → ⊥)
  none_or_some a = elim (cases_lt 0 (a % p)) [
    | inl l ↦ inr (λ e. let z = none_is in absurd (omega arith))
    | inr l ↦ inl (let z = none_is in omega arith)
  ]

  -- a product with 0
  none_times : (a b : ℕ) → Alike p a 0 → Alike p (a * b) 0
  none_times a b h = mul_alike p a 0 b b h refl ∙ ap (λ z. z % p) (let e : 0 * b ≡ 0 = omega arith in e)

  times_none : (a b : ℕ) → Alike p b 0 → Alike p (a * b) 0
  times_none a b h = mul_alike p a a b 0 refl h ∙ ap (λ z. z % p) (let e : a * 0 ≡ 0 = omega arith in e)

  apart_times : (a b : ℕ) → (Alike p a 0 → ⊥) → (Alike p b 0 → ⊥) → Alike p (a * b) 0 → ⊥
  apart_times a b m n h = elim (factor p prime a b h) [ inl x ↦ m x | inr x ↦ n x ]

  -- numbers with one square are the same, or each other's negative
  pub same_squares : (a b : ℕ) → Alike p (a * a) (b * b) → Alike p a b ⊎ Alike p (a + b) 0
  same_squares a b h =
      let q_is : suc (p - 1) ≡ p = let s = some in omega arith in
      let product : ((a + (p - 1) * b) * (a + b)) % p ≡ 0 % p =
      ap (λ z. z % p) (split_squares (p - 1) a b ∙ ap (λ z. (a * a + (p - 1) * (b * b)) + z * (a * b)) q_is)
      ∙ add-mul-mod_self_left (a * a + (p - 1) * (b * b)) p (a * b)
      ∙ add_alike p (a * a) (b * b) ((p - 1) * (b * b)) ((p - 1) * (b * b)) h refl
      ∙ ap (λ z. z % p) (one_more (p - 1) (b * b) ∙ ap (λ z. 0 + z * (b * b)) q_is)
      ∙ add-mul-mod_self_left 0 p (b * b) in
      elim (factor p prime (a + (p - 1) * b) (a + b) product) [
        | inr x ↦ inr x
        | inl x ↦ inl (sym (add-mul-mod_self_left a p b) ∙ ap (λ z. (a + z * b) % p) (sym q_is)
            ∙ ap (λ z. z % p) (with_one (p - 1) a b) ∙ add_alike p (a + (p - 1) * b) 0 b b x refl
            ∙ ap (λ z. z % p) (let e : 0 + b ≡ b = omega arith in e))
      ]

  module _ (k : ℕ) (form : p ≡ 8 * k + 5) (u v x c w v7 : ℕ) (root : Alike p (v * (x * x)) u) (apart : Alike p v 0 → ⊥)
      (cube : Alike p w (v * v * v)) (seventh : Alike p v7 (v * (w * w))) (candidate : Alike p c (u * w * (u * v7) ^ k)) where
    e_of : ℕ
    e_of = ((v * w * x) * (v * w * x)) ^ (2 * k + 1)

    square_is : Alike p (v * (c * c)) (u * e_of)
    unfolding e_of
    square_is =
        let t = (u * v7) ^ k in
        let s = v * w * x in
        mul_alike p v v (c * c) ((u * w * t) * (u * w * t)) refl (mul_alike p c (u * w * t) c (u * w * t) candidate candidate)
        ∙ ap (λ z. z % p) (candidate_product u v w t)
        ∙ mul_alike p u u ((u * (v * (w * w))) * (t * t)) ((u * v7) * (t * t)) refl
        (mul_alike p (u * (v * (w * w))) (u * v7) (t * t) (t * t)
        (mul_alike p u u (v * (w * w)) v7 refl (sym seventh)) refl)
        ∙ mul_alike p u u ((u * v7) * (t * t)) ((s * s) ^ (2 * k + 1)) refl
        (ap (λ z. z % p) (power_split (u * v7) k)
        ∙ pow_alike p (u * v7) (s * s) (2 * k + 1)
        (mul_alike p u (v * (x * x)) v7 (v * (w * w)) (sym root) seventh ∙ ap (λ z. z % p) (root_product v x w)))

    cube_apart : Alike p w 0 → ⊥
    cube_apart h = apart_times (v * v) v (apart_times v v apart apart) apart (sym cube ∙ h)

    one : (Alike p x 0 → ⊥) → Alike p (e_of * e_of) (1 * 1)
    unfolding e_of
    one n =
        let less : 8 * k + 4 ≡ p - 1 = omega (arith, form) in
        ap (λ z. z % p) (power_squared (v * w * x) k ∙ ap (λ z. (v * w * x) ^ z) less)
        ∙ fermat_one p prime (v * w * x) (apart_times (v * w) x (apart_times v w apart cube_apart) n)

    -- v c^2 is u or -u
    pub candidate_square : Alike p (v * (c * c)) u ⊎ Alike p (v * (c * c) + u) 0
    candidate_square = go (none_or_some x)
      where
        none : Alike p x 0 → Alike p (v * (c * c)) u
        none h =
            let u_none : Alike p u 0 = sym root ∙ times_none v (x * x) (none_times x x h) in
            square_is ∙ none_times u e_of u_none ∙ sym u_none

        by_sign : Alike p e_of 1 ⊎ Alike p (e_of + 1) 0 → Alike p (v * (c * c)) u ⊎ Alike p (v * (c * c) + u) 0
        by_sign (inl h) = inl (square_is ∙ mul_alike p u u e_of 1 refl h ∙ ap (λ z. z % p)
            (let e : u * 1 ≡ u = omega arith in e))
        by_sign (inr h) =
            inr (add_alike p (v * (c * c)) (u * e_of) u u square_is refl
            ∙ ap (λ z. z % p) (let e : u * e_of + u ≡ u * (e_of + 1) = omega arith in e)
            ∙ times_none u (e_of + 1) h)

        go : Alike p x 0 ⊎ (Alike p x 0 → ⊥) → Alike p (v * (c * c)) u ⊎ Alike p (v * (c * c) + u) 0
        go (inl h) = inl (none h)
        go (inr n) = by_sign (same_squares e_of 1 (one n))
