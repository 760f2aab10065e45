-- Products by 1, as the sum with a point of z = 1 has them.
use Rattle.std.proofs.Common.{◌≡◌, ℕ, ◌*◌, ◌%◌, ◌<◌, sym, ap, ◌∙◌, arith}
use Rattle.std.proofs.Math.Nat.{mod-eq_of_lt}
use Rattle.residues.specs.Modulo.{times}

pub times_one : (p a : ℕ) → a < p → a ≡ times p a 1
unfolding times
times_one p a h = let e : a * 1 ≡ a = omega arith in sym (ap (λ n. n % p) e ∙ mod-eq_of_lt h)

pub times_square : (p a : ℕ) → 1 < p → a < p → a ≡ times p a (times p 1 1)
times_square p a above h = times_one p a h ∙ ap (times p a) (times_one p 1 above)

pub times_cube : (p a : ℕ) → 1 < p → a < p → a ≡ times p a (times p 1 (times p 1 1))
times_cube p a above h = times_one p a h ∙ ap (times p a) (times_square p 1 above above)
