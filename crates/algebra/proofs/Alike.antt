-- Numbers that are alike modulo m.
use Rattle.std.proofs.Common.{◌≡◌, ℕ, zero, suc, ◌+◌, ◌-◌, ◌*◌, ◌/◌, ◌%◌, ◌<◌, sym, ap, ◌∙◌, arith}
use Rattle.std.proofs.Math.Nat.{add-mul-mod_self_left}
use Rattle.std.proofs.lemmas.Nat.{mod_below}

-- a multiple of m more
pub more_alike : (m a k : ℕ) → (a + m * k) % m ≡ a % m
more_alike m a k = add-mul-mod_self_left a m k

negated : (k b q r : ℕ) → b ≡ suc k * q + r → r < suc k → (suc k - r) + suc k * b ≡ k * b + suc k * (q + 1)
negated k b q r e h = omega arith

-- minus b is (m - 1) * b
pub minus_alike : (m b : ℕ) → 0 < m → (m - b % m) % m ≡ ((m - 1) * b) % m
minus_alike zero b h = absurd (omega arith)
minus_alike (suc k) b h =
    let m : ℕ = suc k in
    let q : ℕ = b / suc k in
    let r : ℕ = b % suc k in
    let below : b % suc k < suc k = mod_below b (suc k) h in
    let split : b ≡ suc k * (b / suc k) + b % suc k = omega arith in
    let e = negated k b (b / suc k) (b % suc k) split below in
    let one : suc k - 1 ≡ k = omega arith in
    sym (more_alike (suc k) (suc k - b % suc k) b) ∙ ap (λ z. z % suc k) e ∙ more_alike (suc k) (k * b) (b / suc k + 1)
    ∙ ap (λ z. (z * b) % suc k) (sym one)
