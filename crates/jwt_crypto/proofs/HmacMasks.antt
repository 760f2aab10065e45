-- Masks on blocks, and the key block in an array of 128 bytes.
use Rattle.std.proofs.Common.{◌≡◌, ◌∙◌, ℕ, ◌+◌, ◌-◌, ◌≤◌, List, [], ◌∷◌, ◌++◌, length, take, replicate, bit_xor, refl}
use Rattle.std.proofs.Common.{ap, arith}
use Rattle.std.proofs.Math.Seq.{take-append-add}
use Rattle.std.proofs.lemmas.List.{take-replicate, take-map}
use Rattle.std.specs.Int.Bits.{xor_assoc, xor_self, xor_zero_r}
use Rattle.jwt_crypto.specs.Hmac.{masked, filled}

-- a mask twice changes nothing
pub xor_twice : (m b : ℕ) → bit_xor (bit_xor b m) m ≡ b
xor_twice m b = xor_assoc b m m ∙ ap (bit_xor b) (xor_self m) ∙ xor_zero_r b

pub unmasked : (m : ℕ) (xs : List ℕ) → masked m (masked m xs) ≡ xs
unmasked m [] = refl
unmasked m (x ∷ xs) = ap (λ b. b ∷ masked m (masked m xs)) (xor_twice m x) ∙ ap (λ ys. x ∷ ys) (unmasked m xs)

-- the first n bytes of a longer filling
pub shorter : (n p : ℕ) (k : List ℕ) → length k ≤ n → n ≤ p → take n (filled p k) ≡ filled n k
shorter n p k h g =
    let e : length k + (n - length k) ≡ n = omega arith in
    let s : n - length k ≤ p - length k = omega arith in
    rw e at (take-append-add k (replicate (p - length k) 0) (n - length k))
    ∙ ap (λ ys. k ++ ys) (take-replicate (n - length k) (p - length k) 0 s)

-- masking and then cutting is the same as cutting and then masking
pub masked_block : (mask n : ℕ) (k block : List ℕ) → length k ≤ n → n ≤ 128 → block ≡ masked mask (filled 128 k)
    → take n block ≡ masked mask (filled n k)
masked_block mask n k block h g e = ap (take n) e ∙ take-map (λ b. bit_xor b mask) n (filled 128 k)
    ∙ ap (masked mask) (shorter n 128 k h g)
