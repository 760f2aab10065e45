-- Numbers modulo p.
use Rattle.std.proofs.Common.{◌≡◌, ℕ, ◌+◌, ◌-◌, ◌*◌, ◌%◌, ◌<◌, refl, sym, ap, ◌∙◌, arith}
use Rattle.std.proofs.Math.Nat.{mod-mod, mod-eq_of_lt}
use Rattle.limbs.proofs.Congruences.{add_alike, mul_alike}
use Rattle.residues.specs.Modulo.{plus, minus, times}
use Rattle.algebra.proofs.Symbols.{minus_back, cancel, modulo}
use Rattle.algebra.proofs.Relations.{Respects}
use Rattle.weierstrass.specs.Group.{IsUnit}

-- a and b leave one remainder
abbrev pub Eq : ℕ → ℕ → ℕ → Type 0
Eq p a b = a % p ≡ b % p

pub minus_zero : (p : ℕ) → 0 < p → (a b : ℕ) → minus p a b % p ≡ 0 % p → a % p ≡ b % p
minus_zero p pos a b h = sym (minus_back p pos a b) ∙ add_alike p (minus p a b) 0 b b h refl
    ∙ ap (λ z. z % p) (let e : 0 + b ≡ b = omega arith in e)

pub minus_same : (p : ℕ) → 0 < p → (a b : ℕ) → a % p ≡ b % p → minus p a b % p ≡ 0 % p
minus_same p pos a b h = cancel p pos (minus p a b) 0 b (minus_back p pos a b ∙ h
    ∙ ap (λ z. z % p) (let e : b ≡ 0 + b = omega arith in e))

pub plus_is : (p a b : ℕ) → plus p a b % p ≡ (a + b) % p
unfolding plus
plus_is p a b = mod-mod (a + b) p

pub times_is : (p a b : ℕ) → times p a b % p ≡ (a * b) % p
unfolding times
times_is p a b = mod-mod (a * b) p

pub plus_alike : (p a b c d : ℕ) → a % p ≡ b % p → c % p ≡ d % p → plus p a c % p ≡ plus p b d % p
plus_alike p a b c d h k = plus_is p a c ∙ add_alike p a b c d h k ∙ sym (plus_is p b d)

pub times_alike : (p a b c d : ℕ) → a % p ≡ b % p → c % p ≡ d % p → times p a c % p ≡ times p b d % p
times_alike p a b c d h k = times_is p a c ∙ mul_alike p a b c d h k ∙ sym (times_is p b d)

pub minus_alike : (p a b c d : ℕ) → a % p ≡ b % p → c % p ≡ d % p → minus p a c % p ≡ minus p b d % p
unfolding minus
minus_alike p a b c d h k =
    mod-mod (a + (p - c % p)) p ∙ add_alike p a b (p - c % p) (p - d % p) h (ap (λ z. (p - z) % p) k)
    ∙ sym (mod-mod (b + (p - d % p)) p)

-- arithmetic modulo p does not see that its numbers were reduced
pub alike_respects : (p : ℕ) → Respects ℕ ℕ (modulo p) (modulo p) (λ a b. a % p ≡ b % p)
unfolding modulo
alike_respects p = record {
  num = λ c. refl;
  add = λ a b c d h k. plus_alike p a c b d h k;
  sub = λ a b c d h k. minus_alike p a c b d h k;
  mul = λ a b c d h k. times_alike p a c b d h k;
}

pub unit_one : (p : ℕ) → IsUnit p 1
unit_one p = record { inverse = 1; is_inverse = refl }

pub unit_product : (p a b : ℕ) → IsUnit p a → IsUnit p b → IsUnit p (a * b)
unit_product p a b u v = record {
  inverse = u.inverse * v.inverse;
  is_inverse = ap (λ z. z % p) (let e : a * b * (u.inverse * v.inverse) ≡ (a * u.inverse) * (b * v.inverse) = omega arith in e)
      ∙ mul_alike p (a * u.inverse) 1 (b * v.inverse) 1 u.is_inverse v.is_inverse;
}

pub unit_same : (p a b : ℕ) → a % p ≡ b % p → IsUnit p a → IsUnit p b
unit_same p a b e u = record {
  inverse = u.inverse;
  is_inverse = mul_alike p b a u.inverse u.inverse (sym e) refl
      ∙ u.is_inverse;
}

pub unit_inverse : (p a : ℕ) → (u : IsUnit p a) → IsUnit p u.inverse
unit_inverse p a u = record {
  inverse = a;
  is_inverse = ap (λ z. z % p) (let e : u.inverse * a ≡ a * u.inverse = omega arith in e) ∙ u.is_inverse;
}

pub unit_cancel : (p c a b : ℕ) → IsUnit p c → (c * a) % p ≡ (c * b) % p → a % p ≡ b % p
unit_cancel p c a b u h =
    let i = u.inverse in
    let one : (n : ℕ) → (i * (c * n)) % p ≡ n % p =
    λ n. ap (λ z. z % p) (let e : i * (c * n) ≡ (c * i) * n = omega arith in e) ∙ mul_alike p (c * i) 1 n n u.is_inverse refl
    ∙ ap (λ z. z % p) (let e : 1 * n ≡ n = omega arith in e) in
    sym (one a) ∙ mul_alike p i i (c * a) (c * b) refl h ∙ one b

pub unit_zero : (p a : ℕ) → 1 < p → IsUnit p a → a % p ≡ 0 % p → ⊥
unit_zero p a l u h =
    let e : (a * u.inverse) % p ≡ (0 * u.inverse) % p = mul_alike p a 0 u.inverse u.inverse h refl in
    let z : 0 * u.inverse ≡ 0 = omega arith in
    let f : 1 % p ≡ 0 % p = sym u.is_inverse ∙ e ∙ ap (λ n. n % p) z in
    let one : 1 % p ≡ 1 = mod-eq_of_lt l in
    let none : 0 % p ≡ 0 = mod-eq_of_lt (let k : 0 < p = omega arith in k) in
    omega arith
