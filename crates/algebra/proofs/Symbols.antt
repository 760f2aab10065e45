-- Differences of polynomials, and the three kinds of numbers that follow them.
use Rattle.std.proofs.Common.{◌≡◌, ℕ, zero, suc, ◌+◌, ◌-◌, ◌*◌, ◌/◌, ◌%◌, ◌<◌, ◌≤◌, List, [], ◌∷◌, length, refl, sym}
use Rattle.std.proofs.Common.{ap, subst, ◌∙◌, arith}
use Rattle.std.proofs.Math.Nat.{mod-mod, mod-add-div, mod-lt, add-mul-mod_self_left}
use Rattle.std.proofs.lemmas.Nat.{mul-le}
use Rattle.limbs.proofs.Congruences.{add_alike, mul_alike}
use Rattle.residues.specs.Modulo.{plus, minus, times}
use Rattle.algebra.proofs.Programs.{Ops, whole, wholes, bounds, lifted}
use Rattle.algebra.proofs.Substitution.{Poly, con, cons, head, rest, ev, add_poly, mul_poly, ev_add, ev_mul}
use Rattle.algebra.proofs.Relations.{Respects, Related, lifted_left}

-- pairs (p, m) for p - m
unfoldable pub differences : Ops (Poly × Poly)
differences = record {
  num = λ c. (con c, con 0);
  add = λ u v. (add_poly u.0 v.0, add_poly u.1 v.1);
  sub = λ u v. (add_poly u.0 v.1, add_poly u.1 v.0);
  mul = λ u v. (add_poly (mul_poly u.0 v.0) (mul_poly u.1 v.1), add_poly (mul_poly u.0 v.1) (mul_poly u.1 v.0));
}

-- arithmetic modulo q, as the formulas of curves have it
unfoldable pub modulo : ℕ → Ops ℕ
modulo q = record { num = λ c. c; add = plus q; sub = minus q; mul = times q }

abbrev pub IsWhole : List ℕ → Poly × Poly → ℕ × ℕ → Type 0
IsWhole r u w = ev u.0 r + w.1 ≡ ev u.1 r + w.0

abbrev pub IsBound : List ℕ → Poly × Poly → ℕ → Type 0
IsBound r u n = ev u.0 r + ev u.1 r ≤ n

abbrev pub IsResidue : ℕ → List ℕ → Poly × Poly → ℕ → Type 0
IsResidue q r u v = ev u.0 r % q ≡ (ev u.1 r + v) % q

-- four numbers as two differences
crossed : (a b c d p m o n : ℕ) → a + m ≡ b + p → c + n ≡ d + o → (a * c + b * d) + (p * n + m * o) ≡ (a * d + b * c)
    + (p * o + m * n)
crossed a b c d p m o n e f =
    let e1 : (a + m) * c ≡ (b + p) * c = ap (λ z. z * c) e in
    let e2 : (a + m) * d ≡ (b + p) * d = ap (λ z. z * d) e in
    let e3 : p * (c + n) ≡ p * (d + o) = ap (λ z. p * z) f in
    let e4 : m * (c + n) ≡ m * (d + o) = ap (λ z. m * z) f in
    omega arith

whole_num : (r : List ℕ) (c : ℕ) → IsWhole r (differences.num c) (wholes.num c)
unfolding differences wholes ev
whole_num r c = omega arith

whole_add : (r : List ℕ) (a b : Poly × Poly) (a' b' : ℕ × ℕ) → IsWhole r a a' → IsWhole r b b'
    → IsWhole r (differences.add a b) (wholes.add a' b')
unfolding differences wholes whole
whole_add r a b a' b' x y = rw (ev_add, ev_add) (omega arith)

whole_sub : (r : List ℕ) (a b : Poly × Poly) (a' b' : ℕ × ℕ) → IsWhole r a a' → IsWhole r b b'
    → IsWhole r (differences.sub a b) (wholes.sub a' b')
unfolding differences wholes whole
whole_sub r a b a' b' x y = rw (ev_add, ev_add) (omega arith)

whole_mul : (r : List ℕ) (a b : Poly × Poly) (a' b' : ℕ × ℕ) → IsWhole r a a' → IsWhole r b b'
    → IsWhole r (differences.mul a b) (wholes.mul a' b')
unfolding differences wholes whole
whole_mul r a b a' b' x y =
    let e0 : ev (add_poly (mul_poly a.0 b.0) (mul_poly a.1 b.1)) r ≡ ev a.0 r * ev b.0 r + ev a.1 r * ev b.1 r =
    ev_add (mul_poly a.0 b.0) (mul_poly a.1 b.1) r ∙ rw (ev_mul a.0 b.0 r, ev_mul a.1 b.1 r) refl in
    let e1 : ev (add_poly (mul_poly a.0 b.1) (mul_poly a.1 b.0)) r ≡ ev a.0 r * ev b.1 r + ev a.1 r * ev b.0 r =
    ev_add (mul_poly a.0 b.1) (mul_poly a.1 b.0) r ∙ rw (ev_mul a.0 b.1 r, ev_mul a.1 b.0 r) refl in
    let e2 : (ev a.0 r * ev b.0 r + ev a.1 r * ev b.1 r) + (a'.0 * b'.1 + a'.1 * b'.0)
    ≡ (ev a.0 r * ev b.1 r + ev a.1 r * ev b.0 r) + (a'.0 * b'.0 + a'.1 * b'.1) =
    crossed (ev a.0 r) (ev a.1 r) (ev b.0 r) (ev b.1 r) a'.0 a'.1 b'.0 b'.1 x y in
    rw (e0, e1) (omega arith)

pub whole_respects : (r : List ℕ) → Respects (Poly × Poly) (ℕ × ℕ) differences wholes (IsWhole r)
whole_respects r = record { num = whole_num r; add = whole_add r; sub = whole_sub r; mul = whole_mul r }

bound_num : (r : List ℕ) (c : ℕ) → IsBound r (differences.num c) (bounds.num c)
unfolding differences bounds ev
bound_num r c = omega arith

bound_add : (r : List ℕ) (a b : Poly × Poly) (a' b' : ℕ) → IsBound r a a' → IsBound r b b'
    → IsBound r (differences.add a b) (bounds.add a' b')
unfolding differences bounds
bound_add r a b a' b' x y = rw (ev_add, ev_add) (omega arith)

bound_sub : (r : List ℕ) (a b : Poly × Poly) (a' b' : ℕ) → IsBound r a a' → IsBound r b b'
    → IsBound r (differences.sub a b) (bounds.sub a' b')
unfolding differences bounds
bound_sub r a b a' b' x y = rw (ev_add, ev_add) (omega arith)

bound_mul : (r : List ℕ) (a b : Poly × Poly) (a' b' : ℕ) → IsBound r a a' → IsBound r b b'
    → IsBound r (differences.mul a b) (bounds.mul a' b')
unfolding differences bounds
bound_mul r a b a' b' x y =
    let e0 : ev (add_poly (mul_poly a.0 b.0) (mul_poly a.1 b.1)) r ≡ ev a.0 r * ev b.0 r + ev a.1 r * ev b.1 r =
    ev_add (mul_poly a.0 b.0) (mul_poly a.1 b.1) r ∙ rw (ev_mul a.0 b.0 r, ev_mul a.1 b.1 r) refl in
    let e1 : ev (add_poly (mul_poly a.0 b.1) (mul_poly a.1 b.0)) r ≡ ev a.0 r * ev b.1 r + ev a.1 r * ev b.0 r =
    ev_add (mul_poly a.0 b.1) (mul_poly a.1 b.0) r ∙ rw (ev_mul a.0 b.1 r, ev_mul a.1 b.0 r) refl in
    let l : (ev a.0 r + ev a.1 r) * (ev b.0 r + ev b.1 r) ≤ a' * b' =
    mul-le (ev a.0 r + ev a.1 r) (ev b.0 r + ev b.1 r) a' b' x y in
    rw (e0, e1) (omega arith)

pub bound_respects : (r : List ℕ) → Respects (Poly × Poly) ℕ differences bounds (IsBound r)
bound_respects r = record { num = bound_num r; add = bound_add r; sub = bound_sub r; mul = bound_mul r }

-- a difference and what it takes
pub minus_back : (q : ℕ) → 0 < q → (a b : ℕ) → (minus q a b + b) % q ≡ a % q
unfolding minus
minus_back q pos a b =
    let low : b % q < q = mod-lt b pos in
    let split : b % q + q * (b / q) ≡ b = mod-add-div b q in
    let e : (a + (q - b % q)) + b ≡ a + q * (1 + b / q) = omega arith in
    add_alike q ((a + (q - b % q)) % q) (a + (q - b % q)) b b (mod-mod (a + (q - b % q)) q) refl
    ∙ ap (λ z. z % q) e ∙ add-mul-mod_self_left a q (1 + b / q)

-- what is added to both falls away
pub cancel : (q : ℕ) → 0 < q → (x y c : ℕ) → (x + c) % q ≡ (y + c) % q → x % q ≡ y % q
cancel q pos x y c h =
    let low : c % q < q = mod-lt c pos in
    let split : c % q + q * (c / q) ≡ c = mod-add-div c q in
    let ex : (x + c) + (q - c % q) ≡ x + q * (1 + c / q) = omega arith in
    let ey : (y + c) + (q - c % q) ≡ y + q * (1 + c / q) = omega arith in
    sym (ap (λ z. z % q) ex ∙ add-mul-mod_self_left x q (1 + c / q))
    ∙ add_alike q (x + c) (y + c) (q - c % q) (q - c % q) h refl
    ∙ ap (λ z. z % q) ey ∙ add-mul-mod_self_left y q (1 + c / q)

module _ (q : ℕ) (pos : 0 < q) (r : List ℕ) where
  residue_num : (c : ℕ) → IsResidue q r (differences.num c) ((modulo q).num c)
  unfolding differences modulo ev
  residue_num c = ap (λ z. z % q) (let e : c ≡ 0 + c = omega arith in e)

  residue_add : (a b : Poly × Poly) (a' b' : ℕ) → IsResidue q r a a' → IsResidue q r b b'
      → IsResidue q r (differences.add a b) ((modulo q).add a' b')
  unfolding differences modulo plus
  residue_add a b a' b' x y =
      rw (ev_add, ev_add)
      (add_alike q (ev a.0 r) (ev a.1 r + a') (ev b.0 r) (ev b.1 r + b') x y
      ∙ ap (λ z. z % q) (let e : (ev a.1 r + a') + (ev b.1 r + b') ≡ (ev a.1 r + ev b.1 r) + (a' + b') = omega arith in e)
      ∙ add_alike q (ev a.1 r + ev b.1 r) (ev a.1 r + ev b.1 r) (a' + b') ((a' + b') % q) refl (sym (mod-mod (a' + b') q)))

  residue_sub : (a b : Poly × Poly) (a' b' : ℕ) → IsResidue q r a a' → IsResidue q r b b'
      → IsResidue q r (differences.sub a b) ((modulo q).sub a' b')
  unfolding differences modulo
  residue_sub a b a' b' x y =
      rw (ev_add, ev_add)
      (
      add_alike q (ev a.0 r) (ev a.1 r + a') (ev b.1 r) (ev b.1 r) x refl
      ∙ ap (λ z. z % q) (let e : (ev a.1 r + a') + ev b.1 r ≡ (ev a.1 r + ev b.1 r) + a' = omega arith in e)
      ∙ add_alike q (ev a.1 r + ev b.1 r) (ev a.1 r + ev b.1 r) a' (minus q a' b' + b') refl (sym (minus_back q pos a' b'))
      ∙ ap (λ z. z % q) (let e : (ev a.1 r + ev b.1 r) + (minus q a' b' + b') ≡ (ev a.1 r + minus q a' b')
      + (ev b.1 r + b') = omega arith in e)
      ∙ add_alike q (ev a.1 r + minus q a' b') (ev a.1 r + minus q a' b') (ev b.1 r + b') (ev b.0 r) refl (sym y)
      ∙ ap (λ z. z % q) (let e : (ev a.1 r + minus q a' b') + ev b.0 r ≡ (ev a.1 r + ev b.0 r)
      + minus q a' b' = omega arith in e)
      )

  residue_mul : (a b : Poly × Poly) (a' b' : ℕ) → IsResidue q r a a' → IsResidue q r b b'
      → IsResidue q r (differences.mul a b) ((modulo q).mul a' b')
  unfolding differences modulo times
  residue_mul a b a' b' x y =
      let a0 = ev a.0 r in let a1 = ev a.1 r in let b0 = ev b.0 r in let b1 = ev b.1 r in
      let e0 : ev (add_poly (mul_poly a.0 b.0) (mul_poly a.1 b.1)) r ≡ a0 * b0 + a1 * b1 =
      ev_add (mul_poly a.0 b.0) (mul_poly a.1 b.1) r ∙ rw (ev_mul a.0 b.0 r, ev_mul a.1 b.1 r) refl in
      let e1 : ev (add_poly (mul_poly a.0 b.1) (mul_poly a.1 b.0)) r ≡ a0 * b1 + a1 * b0 =
      ev_add (mul_poly a.0 b.1) (mul_poly a.1 b.0) r ∙ rw (ev_mul a.0 b.1 r, ev_mul a.1 b.0 r) refl in
      rw (e0, e1)
      (
      add_alike q (a0 * b0) ((a1 + a') * (b1 + b')) (a1 * b1) (a1 * b1) (mul_alike q a0 (a1 + a') b0 (b1 + b') x y) refl
      ∙ ap (λ z. z % q) (let e : (a1 + a') * (b1 + b') + a1 * b1 ≡ ((a1 + a') * b1 + a1 * (b1 + b')) + a'
      * b' = omega arith in e)
      ∙ add_alike q ((a1 + a') * b1 + a1 * (b1 + b')) (a0 * b1 + a1 * b0) (a' * b') ((a' * b') % q)
      (add_alike q ((a1 + a') * b1) (a0 * b1) (a1 * (b1 + b')) (a1 * b0) (mul_alike q (a1 + a') a0 b1 b1 (sym x) refl)
      (mul_alike q a1 a1 (b1 + b') b0 refl (sym y)))
      (sym (mod-mod (a' * b') q))
      )

  pub residue_respects : Respects (Poly × Poly) ℕ differences (modulo q) (IsResidue q r)
  residue_respects = record { num = residue_num; add = residue_add; sub = residue_sub; mul = residue_mul }

-- the variables
unfoldable pub symbols : ℕ → List (Poly × Poly)
symbols zero = []
symbols (suc n) = (cons (con 0) (con 1), con 0) ∷ lifted (λ u. (cons u.0 (con 0), cons u.1 (con 0))) (symbols n)

-- a relation that numbers of variables have at every list of numbers
module _ {B : Type 0} (R : List ℕ → Poly × Poly → B → Type 0) (g : ℕ → B)
    (first : (x : ℕ) (r : List ℕ) → R (x ∷ r) (cons (con 0) (con 1), con 0) (g x))
    (later : (x : ℕ) (r : List ℕ) (u : Poly × Poly) (b : B) → R r u b → R (x ∷ r) (cons u.0 (con 0), cons u.1 (con 0)) b) where
  pub symbols_related : (r : List ℕ) → Related (R r) (symbols (length r)) (lifted g r)
  unfolding symbols lifted
  symbols_related [] = tt
  symbols_related (x ∷ r) = (
    first x r,
    lifted_left (R r) (R (x ∷ r)) (λ u. (cons u.0 (con 0), cons u.1 (con 0))) (λ a b h. later x r a b h)
        (symbols (length r)) (lifted g r)
        (symbols_related r),
  )

pub symbols_whole : (r : List ℕ) → Related (IsWhole r) (symbols (length r)) (lifted (λ n. (n, 0)) r)
unfolding ev head rest
symbols_whole = symbols_related IsWhole (λ n. (n, 0)) (λ x r. omega arith) (λ x r u b h. omega arith)

same_list : (r : List ℕ) → lifted (λ n. n) r ≡ r
unfolding lifted
same_list [] = refl
same_list (x ∷ r) = ap (λ s. x ∷ s) (same_list r)

pub symbols_bound : (r : List ℕ) → Related (IsBound r) (symbols (length r)) r
unfolding ev head rest
symbols_bound r =
    let h : Related (IsBound r) (symbols (length r)) (lifted (λ n. n) r) =
    symbols_related IsBound (λ n. n) (λ x s. omega arith) (λ x s u b k. omega arith) r in
    subst (λ (s : List ℕ). Related (IsBound r) (symbols (length r)) s) (same_list r) h

pub symbols_residue : (q : ℕ) (r : List ℕ) → Related (IsResidue q r) (symbols (length r)) r
unfolding ev head rest
symbols_residue q r =
    let h : Related (IsResidue q r) (symbols (length r)) (lifted (λ n. n) r) =
    symbols_related (IsResidue q) (λ n. n) (λ x s. ap (λ z. z % q) (let e : 0 + x * 1 ≡ 0 + x = omega arith in e))
    (λ x s u b k. ap (λ z. z % q) (let e : ev u.0 s + x * 0 ≡ ev u.0 s = omega arith in e) ∙ k
    ∙ ap (λ z. z % q) (let e : ev u.1 s + b ≡ (ev u.1 s + x * 0) + b = omega arith in e)) r in
    subst (λ (s : List ℕ). Related (IsResidue q r) (symbols (length r)) s) (same_list r) h
