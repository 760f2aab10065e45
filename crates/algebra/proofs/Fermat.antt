-- Fermat's little theorem, and what is no square.
use Rattle.std.proofs.Common.{◌≡◌, ℕ, zero, suc, ◌+◌, ◌-◌, ◌*◌, ◌%◌, ◌^◌, ◌<◌, ◌≤◌, ◌⊎◌, inl, inr, refl, sym, ap, ◌∙◌, arith}
use Rattle.std.proofs.Math.Nat.{mod-mod, mod-eq_of_lt, mul-mod_right, pow-zero, pow-suc}
use Rattle.std.proofs.lemmas.Nat.{mod_below, mul-pow}
use Rattle.std.proofs.lemmas.Bool.{cases_lt}
use Rattle.residues.specs.Modulo.{power}
use Rattle.limbs.proofs.Congruences.{add_alike, mul_alike}
use Rattle.algebra.proofs.Alike.{more_alike}
use Rattle.algebra.specs.Primes.{IsPrime}
use Rattle.algebra.proofs.Divisors.{euclid}
use Rattle.residues.proofs.Powers.{pow-pow}
use Rattle.algebra.proofs.Pocklington.{pow_alike}

-- the number of ways to choose k of n
unfoldable choose : ℕ → ℕ → ℕ
choose n zero = 1
choose zero (suc k) = 0
choose (suc n) (suc k) = choose n k + choose n (suc k)

choose_past : (n k : ℕ) → n < k → choose n k ≡ 0
unfolding choose
choose_past n zero h = absurd (omega arith)
choose_past zero (suc k) h = refl
choose_past (suc n) (suc k) h = let a = choose_past n k (omega arith) in let b = choose_past n (suc k) (omega arith) in
    omega arith

choose_all : (n : ℕ) → choose n n ≡ 1
unfolding choose
choose_all zero = refl
choose_all (suc n) = let a = choose_all n in let b = choose_past n (suc n) (omega arith) in omega arith

absorbed : (k n A B C : ℕ) → suc k * B ≡ n * A → suc (suc k) * C ≡ n * B → suc (suc k) * (B + C) ≡ n * (A + B) + B
absorbed k n A B C e f = let g : suc (suc k) * (B + C) ≡ suc k * B + B + suc (suc k) * C = omega arith in omega arith

-- (k + 1) * choose (n + 1) (k + 1) = (n + 1) * choose n k
choose-absorbs : (n k : ℕ) → suc k * choose (suc n) (suc k) ≡ suc n * choose n k
unfolding choose
choose-absorbs zero zero = refl
choose-absorbs zero (suc k) = let e : suc (suc k) * (0 + 0) ≡ 1 * 0 = omega arith in e
choose-absorbs (suc n) zero =
    let e = choose-absorbs n zero in
    let c : ℕ = choose n 1 in
    let f : 1 * (1 + c) ≡ suc n * 1 = e in
    let g : 1 * (1 + (1 + c)) ≡ suc (suc n) * 1 = omega arith in g
choose-absorbs (suc n) (suc k) =
    let e = choose-absorbs n k in
    let f = choose-absorbs n (suc k) in
    let A : ℕ = choose n k in let B : ℕ = choose n (suc k) in let C : ℕ = choose n (suc (suc k)) in
    let g : suc (suc k) * (A + B + (B + C)) ≡ suc (suc n) * (A + B) =
    joined k n (choose n k) (choose n (suc k)) (choose n (suc (suc k))) e f in g
  where
    joined : (k n A B C : ℕ) → suc k * (A + B) ≡ suc n * A → suc (suc k) * (B + C) ≡ suc n * B
        → suc (suc k) * (A + B + (B + C)) ≡ suc (suc n) * (A + B)
    joined k n A B C e f = omega arith

-- the first m terms of (a + 1) ^ n
terms : (a n m : ℕ) → ℕ
terms a n zero = 0
terms a n (suc m) = terms a n m + choose n m * a ^ m

terms-next : (a n m : ℕ) → terms a (suc n) (suc m) ≡ terms a n (suc m) + a * terms a n m
unfolding terms choose
terms-next a n zero = let x = a ^ 0 in let e : 0 + 1 * x ≡ 0 + 1 * x + a * 0 = omega arith in e
terms-next a n (suc m) =
    let e = terms-next a n m in
    let top : a ^ suc m ≡ a ^ m * a = pow-suc a m in
    collected a (terms a (suc n) (suc m)) (terms a n (suc m)) (terms a n m) (choose n m) (choose n (suc m)) (a ^ m)
    (a ^ suc m) e top
  where
    collected : (a S T U c e x y : ℕ) → S ≡ T + a * U → y ≡ x * a → S + (c + e) * y ≡ T + e * y + a * (U + c * x)
    collected a S T U c e x y f g = rw (f, g) (omega arith)

terms-all : (a n : ℕ) → terms a n (suc n) ≡ (a + 1) ^ n
unfolding terms choose
terms-all a zero = let x = pow-zero a in let y = pow-zero (a + 1) in rw (x, y) refl
terms-all a (suc n) =
    terms-next a n (suc n) ∙ last a (terms a n (suc n)) (choose n (suc n)) (a ^ suc n) ((a + 1) ^ n)
    (choose_past n (suc n) (omega arith)) (terms-all a n)
    ∙ sym (pow-suc (a + 1) n)
  where
    last : (a T c x S : ℕ) → c ≡ 0 → T ≡ S → T + c * x + a * T ≡ S * (a + 1)
    last a T c x S e f = rw (e, f) (omega arith)

module _ (p : ℕ) (prime : IsPrime p) where
  zero-remainder : 0 % p ≡ 0
  zero-remainder = let a = prime.above in mod-eq_of_lt (omega arith)

  small_apart : (k : ℕ) → 0 < k → k < p → k % p ≡ 0 → ⊥
  small_apart k a b e = let s : k % p ≡ k = mod-eq_of_lt b in omega arith

  choose-none : (k : ℕ) → suc k < p → choose p (suc k) % p ≡ 0
  choose-none k h =
      let suc_is : suc (p - 1) ≡ p = omega arith in
      let e : suc k * choose p (suc k) ≡ p * choose (p - 1) k =
      ap (λ z. suc k * choose z (suc k)) (sym suc_is) ∙ choose-absorbs (p - 1) k ∙ ap (λ z. z * choose (p - 1) k) suc_is in
      let z : (suc k * choose p (suc k)) % p ≡ 0 = ap (λ y. y % p) e ∙ mul-mod_right p (choose (p - 1) k) in
      elim (euclid p prime (suc k) (choose p (suc k)) z) [ inl x ↦ absurd (small_apart (suc k) (omega arith) h x) | inr x ↦ x ]

  -- the terms but the last
  terms-one : (a m : ℕ) → suc m ≤ p → terms a p (suc m) % p ≡ 1 % p
  unfolding terms choose
  terms-one a zero h = ap (λ z. z % p) (let x = pow-zero a in let e : 0 + 1 * a ^ 0 ≡ 1 = omega arith in e)
  terms-one a (suc m) h =
      add_alike p _ 1 _ (0 * a ^ suc m) (terms-one a m (omega arith))
      (mul_alike p _ 0 _ _ (choose-none m (omega arith) ∙ sym zero-remainder) refl)
      ∙ ap (λ z. z % p) (let x = a ^ suc m in let e : 1 + 0 * x ≡ 1 = omega arith in e)

  more_one : (a : ℕ) → (a + 1) ^ p % p ≡ (1 + a ^ p) % p
  unfolding terms
  more_one a =
      let above = prime.above in
      let suc_is : suc (p - 1) ≡ p = omega arith in
      ap (λ z. z % p) (sym (terms-all a p)) ∙ split (terms a p p) (choose p p) (a ^ p)
      (ap (λ z. terms a p z % p) (sym suc_is) ∙ terms-one a (p - 1) (omega arith)) (choose_all p)
    where
      split : (T c x : ℕ) → T % p ≡ 1 % p → c ≡ 1 → (T + c * x) % p ≡ (1 + x) % p
      split T c x e f = add_alike p T 1 (c * x) x e (ap (λ z. (z * x) % p) f
          ∙ ap (λ z. z % p) (let k : 1 * x ≡ x = omega arith in k))

  -- a ^ p is a
  pub fermat : (a : ℕ) → a ^ p % p ≡ a % p
  fermat zero =
      let above = prime.above in
      let suc_is : suc (p - 1) ≡ p = omega arith in
      ap (λ z. 0 ^ z % p) (sym suc_is)
      ∙ ap (λ z. z % p) (pow-suc 0 (p - 1) ∙ (let x = 0 ^ (p - 1) in let e : x * 0 ≡ 0 = omega arith in e))
  fermat (suc a) =
      let e : a + 1 ≡ suc a = omega arith in
      ap (λ z. z ^ p % p) (sym e) ∙ more_one a ∙ add_alike p 1 1 (a ^ p) a refl (fermat a)
      ∙ ap (λ z. z % p) (let f : 1 + a ≡ suc a = omega arith in f)

  -- a prime divides a factor
  pub factor : (a b : ℕ) → (a * b) % p ≡ 0 % p → (a % p ≡ 0 % p) ⊎ (b % p ≡ 0 % p)
  factor a b h = elim (euclid p prime a b (h ∙ zero-remainder)) [
    | inl x ↦ inl (x ∙ sym zero-remainder)
    | inr x ↦ inr (x
        ∙ sym zero-remainder)
  ]

  minus_alike : (x y : ℕ) → x % p ≡ y % p → (x + (p - y % p)) % p ≡ 0 % p
  minus_alike x y e =
      let above = prime.above in
      let below : y % p < p = mod_below y p (omega arith) in
      add_alike p x (y % p) _ _ (e ∙ sym (mod-mod y p)) refl
      ∙ ap (λ z. z % p) (let k : y % p + (p - y % p) ≡ 0 + p * 1 = omega arith in k) ∙ more_alike p 0 1

  -- c * a = c where c is not 0 says that a is 1
  pub one_left : (c a : ℕ) → (c % p ≡ 0 % p → ⊥) → (a * c) % p ≡ c % p → a % p ≡ 1 % p
  one_left c a n h =
      let above = prime.above in
      let m1 : ((a + (p - 1)) * c) % p ≡ 0 % p =
      ap (λ z. z % p) (let P = p - 1 in let k : (a + P) * c ≡ a * c + P * c = omega arith in k)
      ∙ add_alike p (a * c) c _ _ h refl
      ∙ ap (λ z. z % p) (whole (p - 1) c p (omega arith)) ∙ more_alike p 0 c in
      elim (factor (a + (p - 1)) c m1) [
        | inr x ↦ absurd (n x)
        | inl x ↦
            sym (more_alike p a 1) ∙ ap (λ z. z % p) (let k : a + p * 1 ≡ a + (p - 1) + 1 = omega arith in k)
            ∙ add_alike p (a + (p - 1)) 0 1 1 x refl ∙ ap (λ z. z % p) (let k : 0 + 1 ≡ 1 = refl in k)
      ]
    where
      whole : (k c p : ℕ) → suc k ≡ p → c + k * c ≡ 0 + p * c
      whole k c p e = rw (← e) (omega arith)

  module _ (d half : ℕ) (p_is : p ≡ suc (half + half)) (some : 0 < half) (power_is : power p d half ≡ p - 1) where
    -- x ^ (2 half) * x is x
    all_of : (x : ℕ) → ((x * x) ^ half * x) % p ≡ x % p
    all_of x =
        let two : x * x ≡ x ^ 2 = sym (pow-suc x 1 ∙ ap (λ z. z * x) (pow-suc x 0 ∙ ap (λ z. z * x) (pow-zero x)
        ∙ (let k : 1 * x ≡ x = omega arith in k))) in
        let e : (x * x) ^ half * x ≡ x ^ p =
        ap (λ z. z ^ half * x) two ∙ ap (λ z. z * x) (pow-pow x 2 half) ∙ sym (pow-suc x (2 * half))
        ∙ ap (λ z. x ^ z) (let k : suc (2 * half) ≡ p = omega arith in k) in
        ap (λ z. z % p) e ∙ fermat x

    unit : (x : ℕ) → (x % p ≡ 0 % p → ⊥) → (x * x) ^ half % p ≡ 1 % p
    unit x n = one_left x ((x * x) ^ half) n (all_of x)

    -- what has such a power is no square: a * a = d * (b * b) says that b is 0
    pub nonsquare : (a b : ℕ) → (a * a) % p ≡ (d * (b * b)) % p → b % p ≡ 0 % p
    unfolding power
    nonsquare a b h = elim (cases_lt 0 (b % p)) [
      | inr z ↦ (let e : b % p ≡ 0 = omega arith in e) ∙ sym zero-remainder
      | inl l ↦ absurd (clash (λ e. let k : b % p ≡ 0 = e ∙ zero-remainder in omega arith))
    ]
      where
        clash : (b % p ≡ 0 % p → ⊥) → ⊥
        clash n =
            let above = prime.above in
            let minus_one : d ^ half % p ≡ (p - 1) % p = power_is ∙ sym (mod-eq_of_lt (let k : p - 1 < p = omega arith in k)) in
            let raised : (a * a) ^ half % p ≡ (p - 1) % p =
            pow_alike p (a * a) (d * (b * b)) half h ∙ ap (λ z. z % p) (mul-pow d (b * b) half)
            ∙ mul_alike p (d ^ half) (p - 1) ((b * b) ^ half) 1 minus_one (unit b n)
            ∙ ap (λ z. z % p) (let k : (p - 1) * 1 ≡ p - 1 = omega arith in k) in
            -- a is minus a
            let turned : ((p - 1) * a) % p ≡ a % p = mul_alike p (p - 1) ((a * a) ^ half) a a (sym raised) refl ∙ all_of a in
            let two_a : (2 * a) % p ≡ 0 % p =
            ap (λ z. z % p) (let k : 2 * a ≡ a + a = omega arith in k) ∙ add_alike p a ((p - 1) * a) a a (sym turned) refl
            ∙ ap (λ z. z % p) (whole (p - 1) a p (omega arith)) ∙ more_alike p 0 a in
            let two_apart : 2 % p ≡ 0 % p → ⊥ = λ e. let k : 2 % p ≡ 2 = mod-eq_of_lt (omega arith) in let z =
            zero-remainder in omega arith in
            elim (factor 2 a two_a) [
              | inl x ↦ two_apart x
              | inr x ↦
                  let nil : (a * a) ^ half % p ≡ 0 % p = vanishes half some (mul_alike p a 0 a a x refl
                  ∙ ap (λ z. z % p) (let k : 0 * a ≡ 0 = omega arith in k)) in
                  let clash : (p - 1) % p ≡ 0 % p = sym raised ∙ nil in
                  let left : (p - 1) % p ≡ p - 1 = mod-eq_of_lt (omega arith) in
                  let z = zero-remainder in omega arith
            ]
          where
            whole : (k a p : ℕ) → suc k ≡ p → k * a + a ≡ 0 + p * a
            whole k a p e = rw (← e) (omega arith)

            vanishes : (k : ℕ) → 0 < k → (a * a) % p ≡ 0 % p → (a * a) ^ k % p ≡ 0 % p
            vanishes zero pos e = absurd (omega arith)
            vanishes (suc k) pos e =
                ap (λ z. z % p) (pow-suc (a * a) k) ∙ mul_alike p ((a * a) ^ k) _ (a * a) 0 refl e
                ∙ ap (λ z. z % p) (let x = (a * a) ^ k in let f : x * 0 ≡ 0 = omega arith in f)
