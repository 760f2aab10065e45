-- Products by 0, 1 and 2.
use Rattle.std.proofs.Common.{◌≡◌, ℕ, ◌+◌, ◌*◌, ◌%◌, ◌<◌, ◌∙◌, ap, arith}
use Rattle.std.proofs.Math.Nat.{mod-eq_of_lt}
use Rattle.std.proofs.lemmas.Nat.{mul-mod_second}
use Rattle.residues.specs.Modulo.{plus, times}

pub times_one : (p : ℕ) → 1 < p → times p 1 1 ≡ 1
unfolding times
times_one p h = mod-eq_of_lt h

pub times_none : (p : ℕ) → 1 < p → times p 0 1 ≡ 0
unfolding times
times_none p h = mod-eq_of_lt (omega arith)

pub times_two : (p z : ℕ) → times p z (plus p 1 1) ≡ plus p z z
unfolding times plus
times_two p z = mul-mod_second z (1 + 1) p ∙ ap (λ n. n % p) (let e : z * (1 + 1) ≡ z + z = omega arith in e)
