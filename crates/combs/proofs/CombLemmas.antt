-- Numbers as combs.
use Rattle.std.proofs.Common.{◌≡◌, ℕ, zero, suc, ◌+◌, ◌-◌, ◌*◌, ◌/◌, ◌%◌, ◌^◌, ◌<◌, ◌≤◌, List, [], ◌∷◌, length, get_or, refl, sym, ap, ◌∙◌, arith}
use Rattle.std.proofs.Math.Nat.{div-div-eq-div-mul, div-one, pow-suc, pow-zero, div-add-mod, div-lt_iff_lt-mul, mul_comm, zero-div}
use Rattle.std.proofs.lemmas.Nat.{mod-pow-add, pow-add, pow_pos}
use Rattle.residues.specs.Bytes.{little_endian}
use Rattle.residues.proofs.Loads.{little_endian_below}
use Rattle.combs.specs.Combs.{comb_digit, spread, upper}

-- bits above i and then above j are those above j and then above i
quotients_turned : (n i j : ℕ) → n / 2 ^ i / 2 ^ j ≡ n / 2 ^ j / 2 ^ i
quotients_turned n i j = div-div-eq-div-mul n (2 ^ i) (2 ^ j) ∙ ap (λ m. n / m) (mul_comm (2 ^ i) (2 ^ j))
    ∙ sym (div-div-eq-div-mul n (2 ^ j) (2 ^ i))

pub quotients : (n i j : ℕ) → n / 2 ^ i / 2 ^ j ≡ n / 2 ^ (i + j)
quotients n i j = div-div-eq-div-mul n (2 ^ i) (2 ^ j) ∙ ap (λ m. n / m) (sym (pow-add 2 i j))

-- one bit less of a part
part_step : (n c j : ℕ) → n / 2 ^ c % 2 ^ (j + 1) ≡ 2 * (n / 2 ^ (c + 1) % 2 ^ j) + n / 2 ^ c % 2
part_step n c j =
    let m = n / 2 ^ c in
    let e : m / 2 ^ 1 ≡ n / 2 ^ (c + 1) = quotients n c 1 in
    let f : m % 2 ^ (j + 1) ≡ (m / 2 ^ 1 % 2 ^ j) * 2 ^ 1 + m % 2 ^ 1 = mod-pow-add m j 1 in
    f ∙ ap (λ z. (z % 2 ^ j) * 2 ^ 1 + m % 2 ^ 1) e ∙ (omega arith)

joined : (w x y z d s u : ℕ) → x ≡ 2 * y + d → u ≡ 2 * z + s → x + w * u ≡ 2 * (y + w * z) + (d + w * s)
joined w x y z d s u e f = rw (e, f) (omega arith)

pub digit_below : (a count n : ℕ) → comb_digit a count n < 2 ^ count
unfolding comb_digit
digit_below a zero n = rw (pow-zero 2) (omega arith)
digit_below a (suc count) n = rw (pow-suc 2 count) (omega (arith, digit_below a count (n / 2 ^ a)))

spread_digit : (a count x d : ℕ) → spread a (suc count) (x % 2 + 2 * d) ≡ x % 2 + 2 ^ a * spread a count d
unfolding spread
spread_digit a count x d =
    let e : (x % 2 + 2 * d) % 2 ≡ x % 2 = omega arith in
    let f : (x % 2 + 2 * d) / 2 ≡ d = omega arith in
    rw (e, f) refl

-- one bit more of each part
pub upper_step : (a c j count n : ℕ) → upper a c (j + 1) count n
    ≡ 2 * upper a (c + 1) j count n + spread a count (comb_digit a count (n / 2 ^ c))
unfolding upper spread comb_digit
upper_step a c j zero n = refl
upper_step a c j (suc count) n =
    let q = n / 2 ^ a in
    let t : n / 2 ^ c / 2 ^ a ≡ q / 2 ^ c = quotients_turned n c a in
    rw (t, spread_digit a count (n / 2 ^ c) (comb_digit a count (q / 2 ^ c)))
    (joined (2 ^ a) (n / 2 ^ c % 2 ^ (j + 1)) (n / 2 ^ (c + 1) % 2 ^ j) (upper a (c + 1) j count q) (n / 2 ^ c % 2)
    (spread a count (comb_digit a count (q / 2 ^ c))) (upper a c (j + 1) count q)
    (part_step n c j) (upper_step a c j count q))

-- no bits
pub upper_none : (a c count n : ℕ) → upper a c 0 count n ≡ 0
unfolding upper
upper_none a c zero n = refl
upper_none a c (suc count) n =
    rw (pow-zero 2, upper_none a c count (n / 2 ^ a)) (omega arith)

-- all bits
pub upper_all : (a count n : ℕ) → n < 2 ^ (a * count) → upper a 0 a count n ≡ n
unfolding upper
upper_all a zero n h =
    let e : a * 0 ≡ 0 = omega arith in
    let k : n < 2 ^ 0 = rw e at h in
    let l : n < 1 = k in
    omega arith
upper_all a (suc count) n h =
    let e : a * suc count ≡ a + a * count = omega arith in
    let k : n < 2 ^ a * 2 ^ (a * count) = rw (e, pow-add 2 a (a * count)) at h in
    let pos : 0 < 2 ^ a = pow_pos a in
    let l : n < 2 ^ (a * count) * 2 ^ a = rw (mul_comm (2 ^ (a * count)) (2 ^ a)) k in
    let m : n / 2 ^ a < 2 ^ (a * count) = (div-lt_iff_lt-mul {k = 2 ^ a} {x = n} {y = 2 ^ (a * count)} pos).1 l in
    rw (pow-zero 2, div-one, upper_all a count (n / 2 ^ a) m)
    (let w : 2 ^ a * (n / 2 ^ a) + n % 2 ^ a ≡ n = div-add-mod n (2 ^ a) in omega arith)

pub spread_zero : (a count : ℕ) → spread a count 0 ≡ 0
unfolding spread
spread_zero a zero = refl
spread_zero a (suc count) = rw (spread_zero a count) (omega arith)

-- a number with one tooth more
pub spread_more : (a count t k : ℕ) → k < 2 ^ t → t < count → spread a count (k + 2 ^ t) ≡ spread a count k + 2 ^ (a * t)
unfolding spread
spread_more a zero t k h l = absurd (omega arith)
spread_more a (suc count) zero k h l =
    let z : k ≡ 0 = let e : k < 2 ^ 0 = h in let f : k < 1 = e in omega arith in
    let m : a * 0 ≡ 0 = omega arith in
    rw (z, m) (spread_one a count)
  where
    spread_one : (a count : ℕ) → (0 + 2 ^ 0) % 2 + 2 ^ a * spread a count ((0 + 2 ^ 0) / 2)
        ≡ 0 % 2 + 2 ^ a * spread a count (0 / 2) + 2 ^ 0
    spread_one a count = omega arith
spread_more a (suc count) (suc t) k h l =
    let w : 2 ^ suc t ≡ 2 ^ t * 2 = pow-suc 2 t in
    let e : (k + 2 ^ suc t) % 2 ≡ k % 2 = omega arith in
    let f : (k + 2 ^ suc t) / 2 ≡ k / 2 + 2 ^ t = omega arith in
    let i : k / 2 < 2 ^ t = omega arith in
    let m : a * suc t ≡ a + a * t = omega arith in
    let s : spread a count (k / 2 + 2 ^ t) ≡ spread a count (k / 2) + 2 ^ (a * t) = spread_more a count t (k / 2) i (omega arith) in
    rw (e, f, s, m, pow-add 2 a (a * t)) (omega arith)

-- a bit of a byte
low_bit : (x y j : ℕ) → j < 8 → (x + 256 * y) / 2 ^ j % 2 ≡ x / 2 ^ j % 2
low_bit x y zero h = omega arith
low_bit x y (suc zero) h = omega arith
low_bit x y (suc (suc zero)) h = omega arith
low_bit x y (suc (suc (suc zero))) h = omega arith
low_bit x y (suc (suc (suc (suc zero)))) h = omega arith
low_bit x y (suc (suc (suc (suc (suc zero))))) h = omega arith
low_bit x y (suc (suc (suc (suc (suc (suc zero)))))) h = omega arith
low_bit x y (suc (suc (suc (suc (suc (suc (suc zero))))))) h = omega arith
low_bit x y (suc (suc (suc (suc (suc (suc (suc (suc j)))))))) h = absurd (omega arith)

pub bit_of : (bytes : List ℕ) (i j : ℕ) → ((k : ℕ) → get_or bytes k 0 < 256) → j < 8
    → little_endian bytes / 2 ^ (8 * i + j) % 2 ≡ get_or bytes i 0 / 2 ^ j % 2
bit_of [] i j h l = rw (zero-div (2 ^ (8 * i + j)), zero-div (2 ^ j)) refl
bit_of (x ∷ xs) zero j h l =
    let e : 8 * 0 + j ≡ j = omega arith in
    rw e (low_bit x (little_endian xs) j l)
bit_of (x ∷ xs) (suc i) j h l =
    let e : 8 * suc i + j ≡ 8 + (8 * i + j) = omega arith in
    let q : little_endian (x ∷ xs) / 2 ^ (8 + (8 * i + j)) ≡ little_endian (x ∷ xs) / 2 ^ 8 / 2 ^ (8 * i + j) =
    sym (quotients (little_endian (x ∷ xs)) 8 (8 * i + j)) in
    let s : (x + 256 * little_endian xs) / 2 ^ 8 ≡ little_endian xs = let lt : x < 256 = h 0 in omega arith in
    rw (e, q, s) (bit_of xs i j (λ k. h (suc k)) l)

pub few_bits : (t d : ℕ) → 0 < t → t ≤ 8 → d < 2 ^ (8 - t) → d < 128
few_bits zero d p l h = absurd (omega arith)
few_bits (suc zero) d p l h = h
few_bits (suc (suc zero)) d p l h = let k : d < 64 = h in omega arith
few_bits (suc (suc (suc zero))) d p l h = let k : d < 32 = h in omega arith
few_bits (suc (suc (suc (suc zero)))) d p l h = let k : d < 16 = h in omega arith
few_bits (suc (suc (suc (suc (suc zero))))) d p l h = let k : d < 8 = h in omega arith
few_bits (suc (suc (suc (suc (suc (suc zero)))))) d p l h = let k : d < 4 = h in omega arith
few_bits (suc (suc (suc (suc (suc (suc (suc zero))))))) d p l h = let k : d < 2 = h in omega arith
few_bits (suc (suc (suc (suc (suc (suc (suc (suc zero)))))))) d p l h = let k : d < 1 = h in omega arith
few_bits (suc (suc (suc (suc (suc (suc (suc (suc (suc t))))))))) d p l h = absurd (omega arith)

-- the place of a bit of a part
bit_place : (a s place : ℕ) → a % 8 ≡ 0 → place + a * s ≡ 8 * (a / 8 * s + place / 8) + place % 8
bit_place a s place e =
    let q = a / 8 in
    let f : a ≡ 8 * q = omega arith in
    let g : a * s ≡ 8 * q * s = ap (λ z. z * s) f in
    omega arith

next_step : (bytes : List ℕ) (place s k d : ℕ) → ((i : ℕ) → get_or bytes i 0 < 256) → length bytes % 8 ≡ 0
    → d ≡ comb_digit (length bytes) k (little_endian bytes / 2 ^ place / 2 ^ (length bytes * suc s))
    → 2 * d + get_or bytes (length bytes / 8 * s + place / 8) 0 / 2 ^ (place % 8) % 2
    ≡ comb_digit (length bytes) (suc k) (little_endian bytes / 2 ^ place / 2 ^ (length bytes * s))
unfolding comb_digit
next_step bytes place s k d below parts e =
    let a = length bytes in
    let n = little_endian bytes in
    let up : n / 2 ^ place / 2 ^ (a * s) / 2 ^ a ≡ n / 2 ^ place / 2 ^ (a * suc s) =
    quotients (n / 2 ^ place) (a * s) a ∙ ap (λ z. n / 2 ^ place / 2 ^ z) (let f : a * s + a ≡ a * suc s = omega arith in f) in
    let here : n / 2 ^ place / 2 ^ (a * s) % 2 ≡ get_or bytes (a / 8 * s + place / 8) 0 / 2 ^ (place % 8) % 2 =
    ap (λ z. z % 2) (quotients n place (a * s) ∙ ap (λ z. n / 2 ^ z) (bit_place a s place parts))
    ∙ bit_of bytes (a / 8 * s + place / 8) (place % 8) below (omega arith) in
    rw (here, up, ← e) (omega arith)

pub next_bit : (bytes : List ℕ) (place t d : ℕ) → ((i : ℕ) → get_or bytes i 0 < 256) → length bytes % 8 ≡ 0 → 0 < t → t ≤ 8
    → d ≡ comb_digit (length bytes) (8 - t) (little_endian bytes / 2 ^ place / 2 ^ (length bytes * t))
    → 2 * d + get_or bytes (length bytes / 8 * (t - 1) + place / 8) 0 / 2 ^ (place % 8) % 2
    ≡ comb_digit (length bytes) (8 - (t - 1)) (little_endian bytes / 2 ^ place / 2 ^ (length bytes * (t - 1)))
next_bit bytes place zero d below parts p l e = absurd (omega arith)
next_bit bytes place (suc s) d below parts p l e =
    let f : 8 - (suc s - 1) ≡ suc (8 - suc s) = omega arith in
    let g : suc s - 1 ≡ s = omega arith in
    rw (f, g) (next_step bytes place s (8 - suc s) d below parts e)

pub upper_at : (a c count n : ℕ) → c ≡ a → upper a c (a - c) count n ≡ 0
upper_at a c count n e =
    let z : a - c ≡ 0 = omega arith in
    ap (λ k. upper a c k count n) z ∙ upper_none a c count n

pub upper_next : (a k count n d : ℕ) → 0 < k → k ≤ a → d ≡ comb_digit a count (n / 2 ^ (k - 1))
    → 2 * upper a k (a - k) count n + spread a count d ≡ upper a (k - 1) (a - (k - 1)) count n
upper_next a k count n d pos le e =
    let c = k - 1 in
    let f : c + 1 ≡ k = omega arith in
    let h : a - c ≡ a - k + 1 = omega arith in
    let step : upper a c (a - k + 1) count n
    ≡ 2 * upper a (c + 1) (a - k) count n + spread a count (comb_digit a count (n / 2 ^ c)) = upper_step a c (a - k) count n in
    sym (ap (λ j. upper a c j count n) h ∙ step
    ∙ ap (λ z. 2 * upper a z (a - k) count n + spread a count (comb_digit a count (n / 2 ^ c))) f
    ∙ ap (λ z. 2 * upper a k (a - k) count n + spread a count z) (sym e))

pub upper_whole : (bytes : List ℕ) (a : ℕ) → ((k : ℕ) → get_or bytes k 0 < 256) → length bytes ≡ a
    → upper a 0 (a - 0) 8 (little_endian bytes) ≡ little_endian bytes
upper_whole bytes a below e =
    let z : a - 0 ≡ a = omega arith in
    ap (λ j. upper a 0 j 8 (little_endian bytes)) z
    ∙ upper_all a 8 (little_endian bytes)
    (let k : a * 8 ≡ 8 * length bytes = omega arith in rw k (little_endian_below bytes below))
