-- Primes by trial division.
use Rattle.std.proofs.Common.{◌≡◌, ℕ, zero, suc, ◌+◌, ◌*◌, ◌/◌, ◌%◌, ◌<◌, ◌≤◌, Bool, true, ◌&&◌, ltb, inl, inr, sym, ap}
use Rattle.std.proofs.Common.{◌∙◌, arith}
use Rattle.std.proofs.Math.Nat.{div-add-mod, mul-mod_left}
use Rattle.std.proofs.lemmas.Nat.{mul-le}
use Rattle.std.proofs.lemmas.Bool.{cases_lt, and_parts, ltb-true}
use Rattle.algebra.specs.Primes.{IsPrime}

-- no number from 2 up to r + 1 divides n
unfoldable pub none_divides : (n r : ℕ) → Bool
none_divides n zero = true
none_divides n (suc r) = ltb 0 (n % suc (suc r)) && none_divides n r

not_divided : (n r : ℕ) → none_divides n r ≡ true → (s : ℕ) → 1 < s → s ≤ suc r → n % s ≡ 0 → ⊥
unfolding none_divides
not_divided n zero h s above below e = omega arith
not_divided n (suc r) h s above below e =
    let parts = and_parts (ltb 0 (n % suc (suc r))) (none_divides n r) h in
    elim (cases_lt s (suc (suc r))) [
      | inl lt ↦ not_divided n r parts.1 s above (omega arith) e
      | inr ge ↦
          let same : s ≡ suc (suc r) = omega arith in
          let at_top : n % suc (suc r) ≡ 0 = ap (λ z. n % z) (sym same) ∙ e in
          let pos = ltb-true 0 (n % suc (suc r)) parts.0 in
          absurd (omega arith)
    ]

-- a number that none divides up to its root
pub by_trial : (n r : ℕ) → 1 < n → n < suc (suc r) * suc (suc r) → none_divides n r ≡ true → IsPrime n
by_trial n r above room h = record { above = above; apart = apart }
  where
    too_big : (s t : ℕ) → suc (suc r) ≤ s → suc (suc r) ≤ t → s * t ≡ n → ⊥
    too_big s t a b e = let m = mul-le (suc (suc r)) (suc (suc r)) s t a b in omega arith

    apart : (s : ℕ) → 1 < s → s < n → n % s ≡ 0 → ⊥
    apart s above_one below e =
        let split : s * (n / s) + n % s ≡ n = div-add-mod n s in
        let whole : s * (n / s) ≡ n = omega arith in
        elim (cases_lt s (suc (suc r))) [
          | inl small ↦ not_divided n r h s above_one (omega arith) e
          | inr big ↦ elim (cases_lt (n / s) (suc (suc r))) [
            | inl small ↦
                not_divided n r h (n / s) (above_quotient s (n / s) whole below) (omega arith)
                (let e2 : n ≡ s * (n / s) = sym whole in ap (λ z. z % (n / s)) e2 ∙ mul-mod_left s (n / s))
            | inr large ↦ too_big s (n / s) big large whole
          ]
        ]
      where
        above_quotient : (s t : ℕ) → s * t ≡ n → s < n → 1 < t
        above_quotient s zero e lt = omega arith
        above_quotient s (suc zero) e lt = omega arith
        above_quotient s (suc (suc t)) e lt = omega arith
