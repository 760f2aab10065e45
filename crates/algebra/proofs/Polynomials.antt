-- Polynomials with whole coefficients, nested by variable, and what a term comes to.
use Rattle.std.proofs.Common.{◌≡◌, ℕ, zero, suc, ◌+◌, ◌-◌, ◌*◌, ◌%◌, ◌<◌, Bool, true, ◌&&◌, eqb, ◌≤◌, inl, inr, List}
use Rattle.std.proofs.Common.{[], ◌∷◌, refl, sym, ap, ◌∙◌, arith}
use Rattle.std.proofs.Math.Nat.{mod-mod, mod-eq_of_lt}
use Rattle.std.proofs.lemmas.Nat.{mod_below}
use Rattle.std.proofs.lemmas.Bool.{eqb-true, and_parts, cases_lt}
use Rattle.residues.specs.Modulo.{plus, minus, times}
use Rattle.algebra.proofs.Terms.{Term, value}
use Rattle.algebra.proofs.Terms.Term.{var, num, ◌⊕◌, ◌⊖◌, ◌⊗◌}
use Rattle.limbs.proofs.Congruences.{add_alike, mul_alike}
use Rattle.algebra.proofs.Alike.{more_alike, minus_alike}

-- the number a - b, or a + x * b, where x is the first variable and a has none of x
pub data Poly : Type 0 where
  con : ℕ → ℕ → Poly
  hor : Poly → Poly → Poly

-- a - b without what is in both
unfoldable pub number : ℕ → ℕ → Poly
number a b = con (a - b) (b - a)

-- a + x * b, as a number where it is one
unfoldable pub join : Poly → Poly → Poly
join (con a b) (con zero zero) = con a b
join s t = hor s t

unfoldable pub put : ℕ → ℕ → Poly → Poly
put a b (con c d) = number (a + c) (b + d)
put a b (hor s t) = hor (put a b s) t

unfoldable pub add_number : ℕ → ℕ → Poly → Poly
add_number zero zero q = q
add_number zero (suc b) q = put 0 (suc b) q
add_number (suc a) b q = put (suc a) b q

unfoldable pub add : Poly → Poly → Poly
add (con a b) q = add_number a b q
add (hor s t) (con a b) = hor (add_number a b s) t
add (hor s t) (hor u v) = join (add s u) (add t v)

unfoldable pub scale : ℕ → ℕ → Poly → Poly
scale a b (con c d) = number (a * c + b * d) (a * d + b * c)
scale a b (hor s t) = hor (scale a b s) (scale a b t)

unfoldable pub times_number : ℕ → ℕ → Poly → Poly
times_number zero zero q = con 0 0
times_number zero (suc b) q = scale 0 (suc b) q
times_number (suc a) b q = scale (suc a) b q

-- each coefficient of the first variable
unfoldable pub over : (Poly → Poly) → Poly → Poly
over g (con a b) = join (g (con a b)) (con 0 0)
over g (hor s t) = join (g s) (over g t)

unfoldable pub mul : Poly → Poly → Poly
mul (con a b) q = times_number a b q
mul (hor s t) (con a b) = times_number a b (hor s t)
mul (hor s t) (hor u v) = add (over (mul s) (hor u v)) (join (con 0 0) (mul t (hor u v)))

unfoldable pub variable : ℕ → Poly
variable zero = hor (con 0 0) (con 1 0)
variable (suc i) = hor (variable i) (con 0 0)

unfoldable pub poly : Term → Poly
poly (var i) = variable i
poly (num n) = con n 0
poly (s ⊕ t) = add (poly s) (poly t)
poly (s ⊖ t) = add (poly s) (scale 0 1 (poly t))
poly (s ⊗ t) = mul (poly s) (poly t)

unfoldable pub is_zero : Poly → Bool
is_zero (con a b) = eqb a b
is_zero (hor s t) = is_zero s && is_zero t

-- a term less c * (s - t) for each line (c, s, t)
unfoldable pub less : Term → List (Term × Term × Term) → Term
less e [] = e
less e (l ∷ ls) = less (e ⊖ l.0 ⊗ (l.1 ⊖ l.2)) ls

-- what computes
unfoldable pub is_identity : (e g : Term) → List (Term × Term × Term) → Bool
unfolding is_zero poly number join put add add_number scale times_number over mul variable less
is_identity e g ls = is_zero (poly (less (e ⊖ g) ls))

-- ---- what they mean modulo n + 1
module _ (n : ℕ) where
  unfoldable pub meaning : Poly → (ℕ → ℕ) → ℕ
  meaning (con a b) f = a + n * b
  meaning (hor s t) f = meaning s (λ i. f (suc i)) + f 0 * meaning t f

  number-meaning : (a b : ℕ) (f : ℕ → ℕ) → meaning (number a b) f % suc n ≡ (a + n * b) % suc n
  unfolding meaning number
  number-meaning a b f = elim (cases_lt a b) [ inl h ↦ below (omega arith) | inr h ↦ above h ]
    where
      below : a ≤ b → (a - b + n * (b - a)) % suc n ≡ (a + n * b) % suc n
      below h =
          let c : ℕ = b - a in
          let e : b ≡ a + c = omega arith in
          let z : a - b ≡ 0 = omega arith in
          let w : a + n * b ≡ 0 + n * c + suc n * a = ap (λ y. a + n * y) e ∙ omega arith in
          ap (λ y. (y + n * c) % suc n) z ∙ sym (more_alike (suc n) (0 + n * c) a) ∙ ap (λ y. y % suc n) (sym w)

      above : b ≤ a → (a - b + n * (b - a)) % suc n ≡ (a + n * b) % suc n
      above h =
          let c : ℕ = a - b in
          let e : a ≡ b + c = omega arith in
          let z : b - a ≡ 0 = omega arith in
          let w : a + n * b ≡ c + n * 0 + suc n * b = ap (λ y. y + n * b) e ∙ omega arith in
          ap (λ y. (c + n * y) % suc n) z ∙ sym (more_alike (suc n) (c + n * 0) b) ∙ ap (λ y. y % suc n) (sym w)

  join-meaning : (s t : Poly) (f : ℕ → ℕ) → meaning (join s t) f ≡ meaning s (λ i. f (suc i)) + f 0 * meaning t f
  unfolding meaning join
  join-meaning (con a b) (con zero zero) f = let x = f 0 in let e : a + n * b ≡ a + n * b + x * (0 + n * 0) = omega arith in e
  join-meaning s t f = refl

  sum_of_two : (a b c d : ℕ) → a + c + n * (b + d) ≡ a + n * b + (c + n * d)
  sum_of_two a b c d = omega arith

  regrouped : (N S R : ℕ) → N + S + R ≡ N + (S + R)
  regrouped N S R = omega arith

  turned : (N S R : ℕ) → N + S + R ≡ S + R + N
  turned N S R = omega arith

  put-meaning : (a b : ℕ) (q : Poly) (f : ℕ → ℕ) → meaning (put a b q) f % suc n ≡ (a + n * b + meaning q f) % suc n
  unfolding meaning put
  put-meaning a b (con c d) f = number-meaning (a + c) (b + d) f ∙ ap (λ z. z % suc n) (sum_of_two a b c d)
  put-meaning a b (hor s t) f =
      add_alike (suc n) _ _ (f 0 * meaning t f) _ (put-meaning a b s (λ i. f (suc i))) refl
      ∙ ap (λ z. z % suc n) (regrouped (a + n * b) (meaning s (λ i. f (suc i))) (f 0 * meaning t f))

  add_number-meaning : (a b : ℕ) (q : Poly) (f : ℕ → ℕ) → meaning (add_number a b q) f % suc n
      ≡ (a + n * b + meaning q f) % suc n
  unfolding add_number
  add_number-meaning zero zero q f = ap (λ z. z % suc n) (let Q = meaning q f in let e : Q ≡ 0 + n * 0 + Q = omega arith in e)
  add_number-meaning zero (suc b) q f = put-meaning 0 (suc b) q f
  add_number-meaning (suc a) b q f = put-meaning (suc a) b q f

  rearranged : (A B C D x : ℕ) → A + C + x * (B + D) ≡ A + x * B + (C + x * D)
  rearranged A B C D x = omega arith

  add-meaning : (p q : Poly) (f : ℕ → ℕ) → meaning (add p q) f % suc n ≡ (meaning p f + meaning q f) % suc n
  unfolding meaning add
  add-meaning (con a b) q f = add_number-meaning a b q f
  add-meaning (hor s t) (con a b) f =
      add_alike (suc n) _ _ (f 0 * meaning t f) _ (add_number-meaning a b s (λ i. f (suc i))) refl
      ∙ ap (λ z. z % suc n) (turned (a + n * b) (meaning s (λ i. f (suc i))) (f 0 * meaning t f))
  add-meaning (hor s t) (hor u v) f =
      ap (λ z. z % suc n) (join-meaning (add s u) (add t v) f)
      ∙ add_alike (suc n) _ _ _ _ (add-meaning s u (λ i. f (suc i)))
      (mul_alike (suc n) (f 0) (f 0) _ _ refl (add-meaning t v f))
      ∙ ap (λ z. z % suc n) (rearranged (meaning s (λ i. f (suc i))) (meaning t f) (meaning u (λ i. f (suc i)))
      (meaning v f) (f 0))

  -- minus 1 twice
  twice : (X Y : ℕ) → (Y + n * n * X) % suc n ≡ (Y + X) % suc n
  twice X Y =
      let e : Y + n * n * X + suc n * X ≡ Y + X + suc n * (n * X) = omega arith in
      sym (more_alike (suc n) (Y + n * n * X) X) ∙ ap (λ z. z % suc n) e ∙ more_alike (suc n) (Y + X) (n * X)

  product : (a b c d : ℕ) → (a * c + b * d + n * (a * d + b * c)) % suc n ≡ ((a + n * b) * (c + n * d)) % suc n
  product a b c d =
      ap (λ z. z % suc n) (let e : a * c + b * d + n * (a * d + b * c) ≡ a * c + n * (a * d + b * c) + b * d = omega arith in e)
      ∙ sym (twice (b * d) (a * c + n * (a * d + b * c)))
      ∙ ap (λ z. z % suc n) (let e : a * c + n * (a * d + b * c) + n * n * (b * d) ≡ (a + n * b)
      * (c + n * d) = omega arith in e)

  scaled : (c A B x : ℕ) → c * A + x * (c * B) ≡ c * (A + x * B)
  scaled c A B x = omega arith

  scale-meaning : (a b : ℕ) (q : Poly) (f : ℕ → ℕ) → meaning (scale a b q) f % suc n ≡ ((a + n * b) * meaning q f) % suc n
  unfolding meaning scale
  scale-meaning a b (con c d) f = number-meaning (a * c + b * d) (a * d + b * c) f ∙ product a b c d
  scale-meaning a b (hor s t) f =
      add_alike (suc n) _ _ _ _ (scale-meaning a b s (λ i. f (suc i)))
      (mul_alike (suc n) (f 0) (f 0) _ _ refl (scale-meaning a b t f))
      ∙ ap (λ z. z % suc n) (scaled (a + n * b) (meaning s (λ i. f (suc i))) (meaning t f) (f 0))

  times_number-meaning : (a b : ℕ) (q : Poly) (f : ℕ → ℕ) → meaning (times_number a b q) f % suc n
      ≡ ((a + n * b) * meaning q f) % suc n
  unfolding meaning times_number
  times_number-meaning zero zero q f =
      ap (λ z. z % suc n) (let Q = meaning q f in let e : 0 + n * 0 ≡ (0 + n * 0) * Q = omega arith in e)
  times_number-meaning zero (suc b) q f = scale-meaning 0 (suc b) q f
  times_number-meaning (suc a) b q f = scale-meaning (suc a) b q f

  -- each coefficient times k
  over-meaning : (g : Poly → Poly) (k : ℕ) (f : ℕ → ℕ)
      → ((q : Poly) → meaning (g q) (λ i. f (suc i)) % suc n ≡ (k * meaning q (λ i. f (suc i))) % suc n)
      → (q : Poly) → meaning (over g q) f % suc n ≡ (k * meaning q f) % suc n
  unfolding meaning over
  over-meaning g k f h (con a b) =
      ap (λ z. z % suc n) (join-meaning (g (con a b)) (con 0 0) f
      ∙ (let A = meaning (g (con a b)) (λ i. f (suc i)) in let x = f 0 in let e : A + x * (0 + n * 0)
      ≡ A = omega arith in e)) ∙ h (con a b)
  over-meaning g k f h (hor s t) =
      ap (λ z. z % suc n) (join-meaning (g s) (over g t) f)
      ∙ add_alike (suc n) _ _ _ _ (h s) (mul_alike (suc n) (f 0) (f 0) _ _ refl (over-meaning g k f h t))
      ∙ ap (λ z. z % suc n) (scaled k (meaning s (λ i. f (suc i))) (meaning t f) (f 0))

  multiplied : (A B Q x : ℕ) → A * Q + (0 + n * 0 + x * (B * Q)) ≡ (A + x * B) * Q
  multiplied A B Q x = omega arith

  times_turned : (a b : ℕ) → a * b ≡ b * a
  times_turned a b = omega arith

  mul-meaning : (p q : Poly) (f : ℕ → ℕ) → meaning (mul p q) f % suc n ≡ (meaning p f * meaning q f) % suc n
  unfolding meaning mul
  mul-meaning (con a b) q f = times_number-meaning a b q f
  mul-meaning (hor s t) (con a b) f =
      times_number-meaning a b (hor s t) f
      ∙ ap (λ z. z % suc n) (times_turned (a + n * b) (meaning s (λ i. f (suc i)) + f 0 * meaning t f))
  mul-meaning (hor s t) (hor u v) f =
      add-meaning (over (mul s) (hor u v)) (join (con 0 0) (mul t (hor u v))) f
      ∙ add_alike (suc n) _ _ _ _ (over-meaning (mul s) (meaning s (λ i. f (suc i))) f
      (λ r. mul-meaning s r (λ i. f (suc i))) (hor u v))
      (ap (λ z. z % suc n) (join-meaning (con 0 0) (mul t (hor u v)) f)
      ∙ add_alike (suc n) (0 + n * 0) (0 + n * 0) _ _ refl (mul_alike (suc n) (f 0) (f 0) _ _ refl (mul-meaning t (hor u v) f)))
      ∙ ap (λ z. z % suc n) (multiplied (meaning s (λ i. f (suc i))) (meaning t f) (meaning u (λ i. f (suc i)) + f 0
      * meaning v f) (f 0))

  variable-meaning : (i : ℕ) (f : ℕ → ℕ) → meaning (variable i) f ≡ f i
  unfolding meaning variable
  variable-meaning zero f = let x = f 0 in let e : 0 + n * 0 + x * (1 + n * 0) ≡ x = omega arith in e
  variable-meaning (suc i) f =
      let A = meaning (variable i) (λ j. f (suc j)) in let x = f 0 in
      (let e : A + x * (0 + n * 0) ≡ A = omega arith in e) ∙ variable-meaning i (λ j. f (suc j))

  negative : (b : ℕ) → (suc n - b % suc n) % suc n ≡ (n * b) % suc n
  negative b =
      let e : suc n - 1 ≡ n = omega arith in
      minus_alike (suc n) b (omega arith) ∙ ap (λ z. (z * b) % suc n) e

  pub poly-meaning : (t : Term) (f : ℕ → ℕ) → value (suc n) f t % suc n ≡ meaning (poly t) f % suc n
  unfolding value meaning poly plus minus times
  poly-meaning (var i) f = ap (λ z. z % suc n) (sym (variable-meaning i f))
  poly-meaning (num k) f = ap (λ z. z % suc n) (let e : k ≡ k + n * 0 = omega arith in e)
  poly-meaning (s ⊕ t) f =
      mod-mod (value (suc n) f s + value (suc n) f t) (suc n) ∙ add_alike (suc n) _ _ _ _ (poly-meaning s f) (poly-meaning t f)
      ∙ sym (add-meaning (poly s) (poly t) f)
  poly-meaning (s ⊖ t) f =
      mod-mod (value (suc n) f s + (suc n - value (suc n) f t % suc n)) (suc n)
      ∙ add_alike (suc n) _ _ _ _ (poly-meaning s f)
      (negative (value (suc n) f t) ∙ mul_alike (suc n) n n _ _ refl (poly-meaning t f)
      ∙ ap (λ z. (z * meaning (poly t) f) % suc n) (let e : n ≡ 0 + n * 1 = omega arith in e)
      ∙ sym (scale-meaning 0 1 (poly t) f))
      ∙ sym (add-meaning (poly s) (scale 0 1 (poly t)) f)
  poly-meaning (s ⊗ t) f =
      mod-mod (value (suc n) f s * value (suc n) f t) (suc n) ∙ mul_alike (suc n) _ _ _ _ (poly-meaning s f)
      (poly-meaning t f) ∙ sym (mul-meaning (poly s) (poly t) f)

  none : (A B x : ℕ) → A % suc n ≡ 0 % suc n → B % suc n ≡ 0 % suc n → (A + x * B) % suc n ≡ 0 % suc n
  none A B x a b =
      add_alike (suc n) A 0 (x * B) (x * 0) a (mul_alike (suc n) x x B 0 refl b)
      ∙ ap (λ z. z % suc n) (let e : 0 + x * 0 ≡ 0 = omega arith in e)

  is_zero-meaning : (p : Poly) (f : ℕ → ℕ) → is_zero p ≡ true → meaning p f % suc n ≡ 0 % suc n
  unfolding meaning is_zero
  is_zero-meaning (con a b) f h =
      let e = eqb-true a b h in
      ap (λ z. z % suc n) (let g : a + n * b ≡ 0 + suc n * b = omega arith in g) ∙ more_alike (suc n) 0 b
  is_zero-meaning (hor s t) f h =
      let parts = and_parts (is_zero s) (is_zero t) h in
      none (meaning s (λ i. f (suc i))) (meaning t f) (f 0) (is_zero-meaning s (λ i. f (suc i)) parts.0)
      (is_zero-meaning t f parts.1)

module _ (m : ℕ) (positive : 0 < m) where
  term_none : (t : Term) (f : ℕ → ℕ) → is_zero (poly t) ≡ true → value m f t % m ≡ 0 % m
  term_none t f h = by_cases m positive
    where
      by_cases : (k : ℕ) → 0 < k → value k f t % k ≡ 0 % k
      by_cases zero below = absurd (omega arith)
      by_cases (suc n) below = poly-meaning n t f ∙ is_zero-meaning n (poly t) f h

  zero-remainder : 0 % m ≡ 0
  zero-remainder = mod-eq_of_lt positive

  -- what differs by 0 is alike
  pub minus_none : (a b : ℕ) → minus m a b % m ≡ 0 % m → a % m ≡ b % m
  unfolding minus
  minus_none a b h =
      let r : b % m < m = mod_below b m positive in
      let whole : a + (m - b % m) + b % m ≡ a + m * 1 = omega arith in
      sym (more_alike m a 1) ∙ ap (λ z. z % m) (sym whole)
      ∙ add_alike m (a + (m - b % m)) 0 (b % m) b (sym (mod-mod (a + (m - b % m)) m) ∙ h) (mod-mod b m)
      ∙ ap (λ z. z % m) (let e : 0 + b ≡ b = omega arith in e)

  pub minus_same : (c d : ℕ) → c % m ≡ d % m → minus m c d % m ≡ 0 % m
  unfolding minus
  minus_same c d h =
      let r : d % m < m = mod_below d m positive in
      mod-mod (c + (m - d % m)) m ∙ add_alike m c (d % m) (m - d % m) (m - d % m) (h ∙ sym (mod-mod d m)) refl
      ∙ ap (λ z. z % m) (let e : d % m + (m - d % m) ≡ 0 + m * 1 = omega arith in e) ∙ more_alike m 0 1

  gone : (a c z : ℕ) → z % m ≡ 0 % m → minus m a (times m c z) % m ≡ a % m
  unfolding minus times
  gone a c z h =
      let nil : (c * z) % m ≡ 0 % m = mul_alike m c c z 0 refl h ∙ ap (λ y. y % m) (let e : c * 0 ≡ 0 = omega arith in e) in
      let same : (c * z) % m % m ≡ 0 = mod-mod (c * z) m ∙ nil ∙ zero-remainder in
      mod-mod (a + (m - (c * z) % m % m)) m ∙ ap (λ y. (a + (m - y)) % m) same
      ∙ ap (λ y. y % m) (let e : a + (m - 0) ≡ a + m * 1 = omega arith in e) ∙ more_alike m a 1

  -- each line's two sides are alike
  abbrev pub Lines : (ℕ → ℕ) → List (Term × Term × Term) → Type 0
  Lines f [] = Unit {0}
  Lines f (l ∷ ls) = (value m f l.1 % m ≡ value m f l.2 % m) × Lines f ls

  less-value : (ls : List (Term × Term × Term)) (e : Term) (f : ℕ → ℕ) → Lines f ls → value m f (less e ls) % m
      ≡ value m f e % m
  unfolding value less
  less-value [] e f h = refl
  less-value (l ∷ ls) e f h =
      less-value ls (e ⊖ l.0 ⊗ (l.1 ⊖ l.2)) f h.1
      ∙ gone (value m f e) (value m f l.0) (minus m (value m f l.1) (value m f l.2))
      (minus_same (value m f l.1) (value m f l.2) h.0)

  -- an identity that holds where the lines do
  pub follows : (e g : Term) (ls : List (Term × Term × Term)) (f : ℕ → ℕ) → is_identity e g ls ≡ true → Lines f ls
      → value m f e % m ≡ value m f g % m
  unfolding value is_identity
  follows e g ls f h lines =
      minus_none (value m f e) (value m f g) (sym (less-value ls (e ⊖ g) f lines) ∙ term_none (less (e ⊖ g) ls) f h)
