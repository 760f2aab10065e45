-- What makes the points a group, by numbers that compute; and points that were decoded.
use Rattle.std.proofs.Common.{◌≡◌, ℕ, suc, ◌+◌, ◌-◌, ◌*◌, ◌%◌, ◌<◌, [], ◌∷◌, sym, ◌∙◌, arith}
use Rattle.std.proofs.Math.Nat.{mod-mod, mod-eq_of_lt}
use Rattle.std.proofs.lemmas.Nat.{mul-mod_second}
use Rattle.residues.specs.Modulo.{plus, minus, times, power}
use Rattle.algebra.specs.Primes.{IsPrime}
use Rattle.algebra.proofs.Fermat as Fermat
use Rattle.algebra.proofs.Terms.{value, at}
use Rattle.algebra.proofs.Polynomials.{follows}
use Rattle.edwards.specs.Group.{Alike, IsField, IsCurve, IsPoint}
use Rattle.edwards.proofs.Identities as I

pub IsField-by : (p : ℕ) → IsPrime p → 2 < p → IsField p
IsField-by p prime above = record {
  above_two = above;
  factor = λ a b h. Fermat.factor p prime a b h;
  two = λ h.
      let two : 2 % p ≡ 2 = mod-eq_of_lt above in
      let none : 0 % p ≡ 0 = mod-eq_of_lt (omega arith) in
      absurd (omega arith);
}

pub IsCurve-by : (p d half root : ℕ) → IsPrime p → p ≡ suc (half + half) → 0 < half → power p d half ≡ p - 1
    → times p root root % p ≡ minus p 0 1 % p → IsCurve p d
unfolding times
IsCurve-by p d half root prime e some power_is root_is = record {
  root = root;
  root_is = root_is;
  nonsquare = λ a b h.
      Fermat.nonsquare p prime d half e some power_is a b
      (sym (mod-mod (a * a) p) ∙ h ∙ mod-mod (d * ((b * b) % p)) p ∙ mul-mod_second d (b * b) p);
}

module _ (p d : ℕ) (field : IsField p) where
  positive : 0 < p
  positive = omega (arith, field.above_two)

  abbrev env : (x y r : ℕ) → ℕ → ℕ
  env x y r = at (x ∷ y ∷ 0 ∷ 0 ∷ 0 ∷ 0 ∷ 0 ∷ 0 ∷ 0 ∷ 0 ∷ 0 ∷ 0 ∷ d ∷ r ∷ [])

  abbrev pub u_by : ℕ → ℕ
  u_by y = minus p (times p y y) 1

  abbrev pub v_by : ℕ → ℕ
  v_by y = plus p (times p d (times p y y)) 1

  one-apart : Alike p 1 0 → ⊥
  one-apart h =
      let above = field.above_two in
      let one : 1 % p ≡ 1 = mod-eq_of_lt (omega arith) in
      let none : 0 % p ≡ 0 = mod-eq_of_lt (omega arith) in
      absurd (omega arith)

  -- v x^2 = u
  pub IsPoint-by_root : (x y : ℕ) → Alike p (times p (v_by y) (times p x x)) (u_by y)
      → IsPoint p d (record { x = x; y = y; z = 1; t = times p x y })
  unfolding value
  IsPoint-by_root x y h = record {
    finite = one-apart;
    product = follows p positive I.decoded_product_left I.decoded_product_right I.decoded_product_lines
        (env x y 0) I.decoded_product tt;
    equation = follows p positive I.decoded_equation_left I.decoded_equation_right I.decoded_equation_lines
        (env x y 0) I.decoded_equation (h, tt);
  }

  pub root_turned : (x y r : ℕ) → Alike p (times p (v_by y) (times p x x)) (minus p 0 (u_by y))
      → Alike p (times p r r) (minus p 0 1)
      → Alike p (times p (v_by y) (times p (times p x r) (times p x r))) (u_by y)
  unfolding value
  root_turned x y r h i = follows p positive I.root_turned_left I.root_turned_right I.root_turned_lines
      (env x y r) I.root_turned (h, (i, tt))

  pub root_negative : (x y : ℕ) → Alike p (times p (v_by y) (times p (minus p 0 x) (minus p 0 x)))
      (times p (v_by y) (times p x x))
  unfolding value
  root_negative x y = follows p positive I.root_negative_left I.root_negative_right I.root_negative_lines
      (env x y 0) I.root_negative tt
