-- Polynomials in one variable: those of at most n coefficients that agree at 0, 1, .., n - 1 agree everywhere.
use Rattle.std.proofs.Common.{◌≡◌, ℕ, zero, suc, ◌+◌, ◌-◌, ◌*◌, ◌<◌, ◌≤◌, List, ◌∷◌, refl, sym, ap, ◌∙◌, arith}
use Rattle.std.specs.Prelude.{max}
use Rattle.std.proofs.lemmas.Nat.{same_from_place}
use Rattle.algebra.proofs.Programs.{length_of, length_product, lengths, ones}
use Rattle.algebra.proofs.Substitution.{Poly, con, cons, head, rest, ev, add_poly, mul_poly, ev_add, ev_mul}
use Rattle.algebra.proofs.Relations.{Respects, Related, lifted_left}
use Rattle.algebra.proofs.Symbols.{differences, symbols}

-- the function f is a polynomial of at most n coefficients
abbrev pub HasLength : ℕ → (ℕ → ℕ) → Type 0
HasLength zero f = (x : ℕ) → f x ≡ 0
HasLength (suc n) f = (a : ℕ) × (g : ℕ → ℕ) × HasLength n g × ((x : ℕ) → f x ≡ a + x * g x)

pub length_same : (n : ℕ) (f g : ℕ → ℕ) → ((x : ℕ) → g x ≡ f x) → HasLength n f → HasLength n g
length_same zero f g e h = λ x. e x ∙ h x
length_same (suc n) f g e h = (h.0, h.1, h.2, λ x. e x ∙ h.3 x)

pub length_more : (n : ℕ) (f : ℕ → ℕ) → HasLength n f → HasLength (suc n) f
length_more zero f h = (0, λ _. 0, λ x. refl, λ x. let e : f x ≡ 0 = h x in omega arith)
length_more (suc n) f h = (h.0, h.1, length_more n h.1 h.2, h.3)

pub length_up : (j n : ℕ) (f : ℕ → ℕ) → HasLength n f → HasLength (j + n) f
length_up zero n f h = let e : 0 + n ≡ n = omega arith in rw e h
length_up (suc j) n f h = let e : suc j + n ≡ suc (j + n) = omega arith in rw e (length_more (j + n) f (length_up j n f h))

pub length_to : (m n : ℕ) (f : ℕ → ℕ) → n ≤ m → HasLength n f → HasLength m f
length_to m n f l h = let e : m ≡ (m - n) + n = omega arith in rw e (length_up (m - n) n f h)

pub length_con : (c : ℕ) → HasLength 1 (λ _. c)
length_con c = (c, λ _. 0, λ x. refl, λ x. omega arith)

pub length_add : (n : ℕ) (f g : ℕ → ℕ) → HasLength n f → HasLength n g → HasLength n (λ x. f x + g x)
length_add zero f g h k = λ x. let e : f x ≡ 0 = h x in let i : g x ≡ 0 = k x in omega arith
length_add (suc n) f g h k = (
  h.0 + k.0,
  λ x. h.1 x + k.1 x,
  length_add n h.1 k.1 h.2 k.2,
  λ x. let e : f x ≡ h.0 + x * h.1 x = h.3 x in let i : g x ≡ k.0 + x * k.1 x = k.3 x in omega arith,
)

pub length_times : (c n : ℕ) (f : ℕ → ℕ) → HasLength n f → HasLength n (λ x. c * f x)
length_times c zero f h = λ x. let e : c * f x ≡ c * 0 = ap (λ z. c * z) (h x) in omega arith
length_times c (suc n) f h = (
  c * h.0,
  λ x. c * h.1 x,
  length_times c n h.1 h.2,
  λ x. let e : c * f x ≡ c * (h.0 + x * h.1 x) =
      ap (λ z. c * z) (h.3 x) in omega arith,
)

-- x times a polynomial
pub length_shift : (n : ℕ) (f : ℕ → ℕ) → HasLength n f → HasLength (suc n) (λ x. x * f x)
length_shift n f h = (0, f, h, λ x. omega arith)

pub length_mul : (m n : ℕ) (f g : ℕ → ℕ) → HasLength m f → HasLength n g → HasLength (length_product m n) (λ x. f x * g x)
unfolding length_product
length_mul zero n f g h k = λ x. let e : f x * g x ≡ 0 * g x = ap (λ z. z * g x) (h x) in omega arith
length_mul (suc m) zero f g h k = λ x. let e : f x * g x ≡ f x * 0 = ap (λ z. f x * z) (k x) in omega arith
length_mul (suc zero) (suc n) f g h k =
    length_to (suc (0 + n)) (suc n) (λ x. f x * g x) (omega arith)
    (length_same (suc n) (λ x. h.0 * g x) (λ x. f x * g x)
    (λ x. let e : f x * g x ≡ (h.0 + x * h.1 x) * g x = ap (λ z. z * g x) (h.3 x) in
    let i : x * h.1 x * g x ≡ x * 0 * g x = ap (λ z. x * z * g x) (h.2 x) in omega arith)
    (length_times h.0 (suc n) g k))
length_mul (suc (suc m)) (suc n) f g h k =
    let inner : HasLength (suc (m + n)) (λ x. h.1 x * g x) = length_mul (suc m) (suc n) h.1 g h.2 k in
    length_to (suc (suc m + n)) (suc (suc (m + n))) (λ x. f x * g x) (omega arith)
    (length_same (suc (suc (m + n))) (λ x. h.0 * g x + x * (h.1 x * g x)) (λ x. f x * g x)
    (λ x. let e : f x * g x ≡ (h.0 + x * h.1 x) * g x = ap (λ z. z * g x) (h.3 x) in omega arith)
    (length_add (suc (suc (m + n))) (λ x. h.0 * g x) (λ x. x * (h.1 x * g x))
    (length_to (suc (suc (m + n))) (suc n) (λ x. h.0 * g x) (omega arith) (length_times h.0 (suc n) g k))
    (length_shift (suc (m + n)) (λ x. h.1 x * g x) inner)))

-- f at x + 1
pub length_next : (n : ℕ) (f : ℕ → ℕ) → HasLength n f → HasLength n (λ x. f (suc x))
length_next zero f h = λ x. h (suc x)
length_next (suc n) f h =
    let g = h.1 in
    let next : HasLength n (λ x. g (suc x)) = length_next n g h.2 in
    length_same (suc n) (λ x. h.0 + (g (suc x) + x * g (suc x))) (λ x. f (suc x))
    (λ x. let e : f (suc x) ≡ h.0 + suc x * g (suc x) = h.3 (suc x) in omega arith)
    (length_add (suc n) (λ _. h.0) (λ x. g (suc x) + x * g (suc x)) (length_to (suc n) 1 (λ _. h.0) (omega arith)
    (length_con h.0))
    (length_add (suc n) (λ x. g (suc x)) (λ x. x * g (suc x)) (length_more n (λ x. g (suc x)) next)
    (length_shift n (λ x. g (suc x)) next)))

cancel_suc : (x a b : ℕ) → suc x * a ≡ suc x * b → a ≡ b
cancel_suc x a b e =
    let pos : 0 < suc x = omega arith in
    (same_from_place a 0 b 0 (suc x) pos pos (omega arith)).0

pub agree : (n : ℕ) (f g : ℕ → ℕ) → HasLength n f → HasLength n g → ((x : ℕ) → x < n → f x ≡ g x) → (x : ℕ) → f x ≡ g x
agree zero f g h k e x = h x ∙ sym (k x)
agree (suc n) f g h k e x =
    let f0 : f 0 ≡ h.0 + 0 * h.1 0 = h.3 0 in
    let g0 : g 0 ≡ k.0 + 0 * k.1 0 = k.3 0 in
    let e0 : f 0 ≡ g 0 = e 0 (omega arith) in
    let first : h.0 ≡ k.0 = omega arith in
    let later : (x : ℕ) → h.1 (suc x) ≡ k.1 (suc x) =
    agree n (λ x. h.1 (suc x)) (λ x. k.1 (suc x)) (length_next n h.1 h.2) (length_next n k.1 k.2)
    (λ x l. cancel_suc x (h.1 (suc x)) (k.1 (suc x))
    (let a : f (suc x) ≡ h.0 + suc x * h.1 (suc x) = h.3 (suc x) in
    let b : g (suc x) ≡ k.0 + suc x * k.1 (suc x) = k.3 (suc x) in
    let c : f (suc x) ≡ g (suc x) = e (suc x) (omega arith) in
    omega arith)) in
    agree_all f g h.1 k.1 h.0 k.0 first h.3 k.3 later x
  where
    agree_all : (f g f' g' : ℕ → ℕ) (a b : ℕ) → a ≡ b → ((x : ℕ) → f x ≡ a + x * f' x) → ((x : ℕ) → g x ≡ b + x * g' x)
        → ((x : ℕ) → f' (suc x) ≡ g' (suc x)) → (x : ℕ) → f x ≡ g x
    agree_all f g f' g' a b i p q l zero = let c : f 0 ≡ a + 0 * f' 0 = p 0 in let d : g 0 ≡ b + 0 * g' 0 = q 0 in omega arith
    agree_all f g f' g' a b i p q l (suc x) =
        let c : f (suc x) ≡ a + suc x * f' (suc x) = p (suc x) in
        let d : g (suc x) ≡ b + suc x * g' (suc x) = q (suc x) in
        let m : suc x * f' (suc x) ≡ suc x * g' (suc x) = ap (λ z. suc x * z) (l x) in
        omega arith

-- both polynomials of a difference are of this length in the first variable
abbrev pub AreShort : List ℕ → Poly × Poly → ℕ → Type 0
AreShort r u n = HasLength n (λ x. ev u.0 (x ∷ r)) × HasLength n (λ x. ev u.1 (x ∷ r))

short_num : (r : List ℕ) (c : ℕ) → AreShort r (differences.num c) (lengths.num c)
unfolding differences lengths length_of ev
short_num r zero = (λ x. refl, λ x. refl)
short_num r (suc c) = (length_con (suc c), length_con 0)

short_sum : (r : List ℕ) (a b : Poly) (m n : ℕ) → HasLength m (λ x. ev a (x ∷ r)) → HasLength n (λ x. ev b (x ∷ r))
    → HasLength (max m n) (λ x. ev (add_poly a b) (x ∷ r))
short_sum r a b m n h k =
    length_same (max m n) (λ x. ev a (x ∷ r) + ev b (x ∷ r)) (λ x. ev (add_poly a b) (x ∷ r)) (λ x. ev_add a b (x ∷ r))
    (length_add (max m n) (λ x. ev a (x ∷ r)) (λ x. ev b (x ∷ r)) (length_to (max m n) m (λ x. ev a (x ∷ r)) (omega arith) h)
    (length_to (max m n) n (λ x. ev b (x ∷ r)) (omega arith) k))

short_product : (r : List ℕ) (a b : Poly) (m n : ℕ) → HasLength m (λ x. ev a (x ∷ r)) → HasLength n (λ x. ev b (x ∷ r))
    → HasLength (length_product m n) (λ x. ev (mul_poly a b) (x ∷ r))
short_product r a b m n h k =
    length_same (length_product m n) (λ x. ev a (x ∷ r) * ev b (x ∷ r)) (λ x. ev (mul_poly a b) (x ∷ r))
    (λ x. ev_mul a b (x ∷ r))
    (length_mul m n (λ x. ev a (x ∷ r)) (λ x. ev b (x ∷ r)) h k)

short_add : (r : List ℕ) (a b : Poly × Poly) (m n : ℕ) → AreShort r a m → AreShort r b n
    → AreShort r (differences.add a b) (lengths.add m n)
unfolding differences lengths
short_add r a b m n h k = (short_sum r a.0 b.0 m n h.0 k.0, short_sum r a.1 b.1 m n h.1 k.1)

short_sub : (r : List ℕ) (a b : Poly × Poly) (m n : ℕ) → AreShort r a m → AreShort r b n
    → AreShort r (differences.sub a b) (lengths.sub m n)
unfolding differences lengths
short_sub r a b m n h k = (short_sum r a.0 b.1 m n h.0 k.1, short_sum r a.1 b.0 m n h.1 k.0)

short_mul : (r : List ℕ) (a b : Poly × Poly) (m n : ℕ) → AreShort r a m → AreShort r b n
    → AreShort r (differences.mul a b) (lengths.mul m n)
unfolding differences lengths
short_mul r a b m n h k =
    let p = length_product m n in
    let e : max p p ≡ p = omega arith in (
      rw e at (short_sum r (mul_poly a.0 b.0) (mul_poly a.1 b.1) p p (short_product r a.0 b.0 m n h.0 k.0)
          (short_product r a.1 b.1 m n h.1 k.1)),
      rw e at (short_sum r (mul_poly a.0 b.1) (mul_poly a.1 b.0) p p (short_product r a.0 b.1 m n h.0 k.1)
          (short_product r a.1 b.0 m n h.1 k.0)),
    )

pub short_respects : (r : List ℕ) → Respects (Poly × Poly) ℕ differences lengths (AreShort r)
short_respects r = record { num = short_num r; add = short_add r; sub = short_sub r; mul = short_mul r }

-- the variables
deeper : Poly × Poly → Poly × Poly
deeper u = (cons u.0 (con 0), cons u.1 (con 0))

symbols_one : (n : ℕ) → Related (λ u k. k ≡ 1) (symbols n) (ones n)
unfolding symbols ones deeper
symbols_one zero = tt
symbols_one (suc n) = (refl, lifted_left (λ u k. k ≡ 1) (λ u k. k ≡ 1) deeper (λ a b e. e) (symbols n) (ones n) (symbols_one n))

deeper_short : (r : List ℕ) (u : Poly × Poly) (k : ℕ) → k ≡ 1 → AreShort r (deeper u) k
unfolding deeper ev head rest
deeper_short r u k e =
    rw e (
      length_same 1 (λ _. ev u.0 r) (λ x. ev u.0 r + x * 0) (λ x. omega arith) (length_con (ev u.0 r)),
      length_same 1 (λ _. ev u.1 r) (λ x. ev u.1 r + x * 0) (λ x. omega arith) (length_con (ev u.1 r)),
    )

first_short : (r : List ℕ) → AreShort r (cons (con 0) (con 1), con 0) 2
unfolding ev head rest
first_short r = (
  (0, λ _. 1, length_con 1, λ x. omega arith),
  length_more 1 (λ _. 0) (length_con 0),
)

pub symbols_short : (r : List ℕ) (n : ℕ) → Related (AreShort r) (symbols (suc n)) (2 ∷ ones n)
unfolding symbols deeper
symbols_short r n = (
  first_short r,
  lifted_left (λ u k. k ≡ 1) (AreShort r) deeper (λ u k e. deeper_short r u k e)
      (symbols n) (ones n) (symbols_one n),
)
