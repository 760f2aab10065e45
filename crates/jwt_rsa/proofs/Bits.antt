-- The numbers of octets, and their bits.
use Rattle.std.proofs.Common.{◌≡◌, ℕ, zero, suc, ◌+◌, ◌-◌, ◌*◌, ◌^◌, ◌<◌, ◌≤◌, List, [], ◌∷◌, length, get_or, drop, eqb}
use Rattle.std.proofs.Common.{false, refl, sym, ap, ◌∙◌, arith}
use Rattle.std.specs.Int.{w8, leading_zeros}
use Rattle.std.proofs.Math.Nat.{mul-le-mul_right, pow-le-pow_right, pow-succ'}
use Rattle.std.proofs.lemmas.Nat.{pow-add, leading_top}
use Rattle.std.proofs.lemmas.List.{drop_more}
use Rattle.std.proofs.lemmas.Bool.{ne_eqb}
use Rattle.modular.specs.Octets.{os2ip}
use Rattle.jwt_rsa.specs.Rsa.{bit_count, HasBits}

-- an octet of 0 at the front counts for nothing
pub number_after_zero : (xs : List ℕ) (i : ℕ) → i < length xs → get_or xs i 0 ≡ 0 → os2ip (drop (i + 1) xs) ≡ os2ip (drop i xs)
unfolding os2ip
number_after_zero xs i h z = rw (drop_more xs i 0 h, z) (omega arith)

pub bits_after_zero : (xs : List ℕ) (i : ℕ) → i < length xs → get_or xs i 0 ≡ 0 → bit_count (drop (i + 1) xs)
    ≡ bit_count (drop i xs)
unfolding bit_count
bits_after_zero xs i h z = rw (drop_more xs i 0 h, z) refl

-- the bits of octets that do not begin with 0
bits_from_front : (x : ℕ) (xs : List ℕ) → 0 < x → bit_count (x ∷ xs) ≡ 8 - leading_zeros w8 x + 8 * length xs
unfolding bit_count
bits_from_front x xs h = let some : eqb x 0 ≡ false = ne_eqb x 0 (λ e. omega (arith, e, h)) in rw some refl

pub bits_at : (xs : List ℕ) → 0 < length xs → 0 < get_or xs 0 0 → get_or xs 0 0 < 256
    → bit_count xs + leading_zeros w8 (get_or xs 0 0) ≡ 8 * length xs
bits_at [] h s l = absurd (omega arith)
bits_at (x ∷ xs) h s l = let top = leading_top 8 x s l in rw (bits_from_front x xs s) (omega (arith, top.1))

-- there are as many octets as the bits take
pub bits_fill : (xs : List ℕ) → (0 < length xs → 0 < get_or xs 0 0) → get_or xs 0 0 < 256
    → (bit_count xs ≤ 8 * length xs) × (8 * length xs ≤ bit_count xs + 7)
unfolding bit_count
bits_fill [] s l = (omega arith, omega arith)
bits_fill (x ∷ xs) s l =
    let some : 0 < x = s (omega arith) in
    let top = leading_top 8 x some l in
    rw (bits_from_front x xs some) (omega (arith, top.1), omega (arith, top.1))

pub pow_octets : (n : ℕ) → 256 ^ n ≡ 2 ^ (8 * n)
pow_octets zero = refl
pow_octets (suc n) =
    let whole : 8 * suc n ≡ 8 + 8 * n = omega arith in
    rw (pow-succ', whole, pow-add 2 8 (8 * n), pow_octets n) refl

above_front : (x A B P : ℕ) → B ≤ x → B * P ≤ x * P + A
above_front x A B P h = omega (arith, mul-le-mul_right P h)

below_front : (x A B P : ℕ) → x < B → A < P → x * P + A < B * P
below_front x A B P h l = let more : x + 1 ≤ B = omega arith in omega (arith, l, mul-le-mul_right P more)

pub number_below : (xs : List ℕ) → ((k : ℕ) → get_or xs k 0 < 256) → os2ip xs < 256 ^ length xs
unfolding os2ip
number_below [] h = omega arith
number_below (x ∷ xs) h =
    rw pow-succ' (below_front x (os2ip xs) 256 (256 ^ length xs) (h 0) (number_below xs (λ k. h (suc k))))

bits_between : (x j L r b : ℕ) → 2 ^ j ≤ x → x < 2 ^ suc j → r < 256 ^ L → b ≡ suc j + 8 * L → HasBits (x * 256 ^ L + r) b
bits_between x j L r b low high small e =
    let low' : 2 ^ j * 256 ^ L ≤ x * 256 ^ L + r = above_front x r (2 ^ j) (256 ^ L) low in
    let high' : x * 256 ^ L + r < 2 ^ suc j * 256 ^ L = below_front x r (2 ^ suc j) (256 ^ L) high small in
    let at_low : 2 ^ (b - 1) ≡ 2 ^ j * 256 ^ L =
    let split : b - 1 ≡ j + 8 * L = omega arith in ap (λ z. 2 ^ z) split ∙ pow-add 2 j (8 * L)
    ∙ ap (λ z. 2 ^ j * z) (sym (pow_octets L)) in
    let at_high : 2 ^ b ≡ 2 ^ suc j * 256 ^ L =
    ap (λ z. 2 ^ z) e ∙ pow-add 2 (suc j) (8 * L) ∙ ap (λ z. 2 ^ suc j * z) (sym (pow_octets L)) in
    record { below = rw at_high high'; from = λ _. rw at_low low' }

bits_with : (x : ℕ) (xs : List ℕ) → x < 256 → os2ip xs < 256 ^ length xs → HasBits (os2ip xs) (bit_count xs)
    → HasBits (x * 256 ^ length xs + os2ip xs) (bit_count (x ∷ xs))
unfolding bit_count
bits_with zero xs l small h = let none : zero * 256 ^ length xs + os2ip xs ≡ os2ip xs = omega arith in rw none h
bits_with (suc x) xs l small h =
    let top = leading_top 8 (suc x) (omega arith) l in
    bits_between (suc x) top.0 (length xs) (os2ip xs) _ top.2 top.3 small
    (bits_from_front (suc x) xs (omega arith) ∙ let e = top.1 in omega (arith, e))

-- the bits are those of the number
pub has_bits : (xs : List ℕ) → ((k : ℕ) → get_or xs k 0 < 256) → HasBits (os2ip xs) (bit_count xs)
unfolding os2ip bit_count
has_bits [] h = record { below = omega arith; from = λ some. absurd (omega arith) }
has_bits (x ∷ xs) h =
    bits_with x xs (h 0) (number_below xs (λ k. h (suc k))) (has_bits xs (λ k. h (suc k)))

above_one_at : (n bits : ℕ) → 1 < bits → HasBits n bits → 1 < n
above_one_at n bits h b =
    let some : 1 ≤ bits - 1 = omega arith in
    let two : 2 ^ 1 ≤ 2 ^ (bits - 1) = pow-le-pow_right (omega arith) {i = 1} {j = bits - 1} some in
    omega (arith, two, b.from (omega arith))

pub above_one : (xs : List ℕ) → ((k : ℕ) → get_or xs k 0 < 256) → 1 < bit_count xs → 1 < os2ip xs
above_one xs h some = above_one_at (os2ip xs) (bit_count xs) some (has_bits xs h)
