-- Products with twice a number, which are twice the product.
use Rattle.std.proofs.Common.{◌≡◌, ℕ, ◌+◌, ◌*◌, ◌%◌, ap, ◌∙◌, arith}
use Rattle.std.proofs.Math.Nat.{add-mod}
use Rattle.std.proofs.lemmas.Nat.{mul-mod_first, mul-mod_second}
use Rattle.residues.specs.Modulo.{plus, times}

pub twice_first : (p a b : ℕ) → times p (plus p a a) b ≡ plus p (times p a b) (times p a b)
unfolding plus times
twice_first p a b =
    mul-mod_first (a + a) b p ∙ ap (λ n. n % p) (let e : (a + a) * b ≡ a * b + a * b = omega arith in e)
    ∙ add-mod (a * b) (a * b) p

pub twice_second : (p a b : ℕ) → times p a (plus p b b) ≡ plus p (times p a b) (times p a b)
unfolding plus times
twice_second p a b =
    mul-mod_second a (b + b) p ∙ ap (λ n. n % p) (let e : a * (b + b) ≡ a * b + a * b = omega arith in e)
    ∙ add-mod (a * b) (a * b) p

pub twice_twice : (p a : ℕ) → times p (plus p a a) (plus p a a) ≡ plus p (plus p (times p a a) (times p a a))
    (plus p (times p a a) (times p a a))
twice_twice p a = twice_first p a (plus p a a) ∙ ap (λ n. plus p n n) (twice_second p a a)
