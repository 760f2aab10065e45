-- Numbers and their octets.
use Rattle.std.proofs.Common.{◌≡◌, ◌⊎◌, inl, inr, ℕ, zero, suc, ◌+◌, ◌*◌, ◌/◌, ◌%◌, ◌<◌, ◌≤◌, List, [], ◌∷◌, ◌++◌}
use Rattle.std.proofs.Common.{length, get_or, take, drop, add-one, refl, ap, sym, ◌∙◌, arith}
use Rattle.std.specs.Prelude.{slice_index}
use Rattle.std.proofs.lemmas.Bool.{cases_lt}
use Rattle.std.proofs.lemmas.Bool.Decides.{nat_tests}
use Rattle.std.proofs.lemmas.List.{length-take, length-take-le, get_or-take, get_or_past, take_all, drop_all, take-append-drop}
use Rattle.std.proofs.Math.Seq.{take-append_seam, drop-append_seam, drop-cons, take-suc}
use Rattle.std.proofs.Math.Nat.{div-add-mod}
use Rattle.jwt_key_files.specs.Der.{last_octets, number_octets}
use Rattle.jwt_key_files.specs.private_clauses.Numbers.{number_from}

-- the number of octets
number_nil : (n : ℕ) → number_from n [] ≡ n
unfolding number_from
number_nil n = refl

number_cons : (n x : ℕ) (xs : List ℕ) → number_from n (x ∷ xs) ≡ number_from (n * 0x100 + x) xs
unfolding number_from
number_cons n x xs = refl

number_more : (n x : ℕ) (xs : List ℕ) → number_from n (xs ++ (x ∷ [])) ≡ number_from n xs * 0x100 + x
number_more n x [] = number_cons n x [] ∙ number_nil (n * 0x100 + x) ∙ ap (λ (k : ℕ). k * 0x100 + x) (sym (number_nil n))
number_more n x (y ∷ xs) =
    number_cons n y (xs ++ (x ∷ [])) ∙ number_more (n * 0x100 + y) x xs
    ∙ ap (λ (k : ℕ). k * 0x100 + x) (sym (number_cons n y xs))

grows : (n : ℕ) (xs : List ℕ) → n ≤ number_from n xs
grows n [] = omega (arith, number_nil n)
grows n (x ∷ xs) = omega (arith, number_cons n x xs, grows (n * 0x100 + x) xs)

-- the octets of a number
octets_zero : (b : ℕ) → last_octets b 0 ≡ []
unfolding last_octets
octets_zero zero = refl
octets_zero (suc b) = refl

octets_more : (b n : ℕ) → 0 < n → last_octets (suc b) n ≡ last_octets b (n / 0x100) ++ (n % 0x100 ∷ [])
unfolding last_octets
octets_more b n l = grind (arith, nat_tests)

number_last : (b n : ℕ) → n ≤ b → number_from 0 (last_octets b n) ≡ n
number_last zero n l =
    let z : n ≡ 0 = omega arith in
    ap (λ (k : ℕ). number_from 0 (last_octets zero k)) z ∙ ap (number_from 0) (octets_zero zero) ∙ number_nil 0 ∙ sym z
number_last (suc b) n l = elim (cases_lt 0 n) [
  | inl p ↦
      ap (number_from 0) (octets_more b n p) ∙ number_more 0 (n % 0x100) (last_octets b (n / 0x100))
      ∙ ap (λ (k : ℕ). k * 0x100 + n % 0x100) (number_last b (n / 0x100) (omega arith)) ∙ omega (arith, div-add-mod n 0x100)
  | inr q ↦
      let z : n ≡ 0 = omega arith in
      ap (λ (k : ℕ). number_from 0 (last_octets (suc b) k)) z ∙ ap (number_from 0) (octets_zero (suc b)) ∙ number_nil 0 ∙ sym z
]

all_octets : (n : ℕ) → number_octets n ≡ last_octets n n
unfolding number_octets
all_octets n = refl

pub number_of : (n : ℕ) → number_from 0 (number_octets n) ≡ n
number_of n = ap (number_from 0) (all_octets n) ∙ number_last n n (omega arith)

pub record SameNumber (m n : ℕ) (r s : List ℕ) : Type 0 where
  pub number : m ≡ n
  pub rest : r ≡ s

pub one_number_octets : (m n : ℕ) (r s : List ℕ) → length (number_octets m) ≡ length (number_octets n)
    → (number_octets m ++ r) ≡ (number_octets n ++ s) → SameNumber m n r s
one_number_octets m n r s l e =
    let f : number_octets m ≡ number_octets n =
    sym (take-append_seam (number_octets m) r) ∙ ap (λ (k : ℕ). take k (number_octets m ++ r)) l
    ∙ ap (take (length (number_octets n))) e
    ∙ take-append_seam (number_octets n) s in
    let g : r ≡ s =
    sym (drop-append_seam (number_octets m) r) ∙ ap (λ (k : ℕ). drop k (number_octets m ++ r)) l
    ∙ ap (drop (length (number_octets n))) e
    ∙ drop-append_seam (number_octets n) s in
    record { number = sym (number_of m) ∙ ap (number_from 0) f ∙ number_of n; rest = g }

-- octets with no leading 0 are those of their number
positive : (xs : List ℕ) → 0 < slice_index xs 0 → 0 < number_from 0 xs
positive [] h = absurd (omega (arith, h))
positive (x ∷ xs) h =
    let f : 0 < x = h in
    omega (arith, f, number_cons 0 x xs, grows (0 * 0x100 + x) xs)

small_front : (k : ℕ) (xs : List ℕ) → ((i : ℕ) → slice_index xs i < 0x100) → (i : ℕ) → slice_index (take k xs) i < 0x100
small_front k xs small i = elim (cases_lt i k) [
  | inl l ↦ omega (arith, get_or-take k xs i 0 l, small i)
  | inr g ↦ omega (arith, get_or_past (take k xs) i 0 (omega (arith, length-take k xs)))
]

from_octets : (k : ℕ) (xs : List ℕ) → length xs ≡ k → ((i : ℕ) → slice_index xs i < 0x100) → (0 < k → 0 < slice_index xs 0)
    → (b : ℕ) → number_from 0 xs ≤ b → last_octets b (number_from 0 xs) ≡ xs
from_octets zero [] l small first b h = ap (last_octets b) (number_nil 0) ∙ octets_zero b
from_octets zero (x ∷ xs) l small first b h = absurd (omega arith)
from_octets (suc k) xs l small first zero h = absurd (omega (arith, positive xs (first (omega arith))))
from_octets (suc k) xs l small first (suc b) h =
    let x = slice_index xs k in
    let ys = take k xs in
    let split : xs ≡ (ys ++ (x ∷ [])) = sym (take_all (suc k) xs (omega arith)) ∙ take-suc xs k 0 (omega arith) in
    let v : number_from 0 xs ≡ number_from 0 ys * 0x100 + x = ap (number_from 0) split ∙ number_more 0 x ys in
    let above : 0 < number_from 0 xs = positive xs (first (omega arith)) in
    let q : number_from 0 xs / 0x100 ≡ number_from 0 ys = omega (arith, v, small k, div-add-mod (number_from 0 xs) 0x100) in
    let r : number_from 0 xs % 0x100 ≡ x = omega (arith, v, small k, div-add-mod (number_from 0 xs) 0x100) in
    let less : number_from 0 ys ≤ b = omega (arith, v, h, above) in
    let front : last_octets b (number_from 0 ys) ≡ ys = from_octets k ys (length-take-le k xs (omega arith))
    (small_front k xs small)
    (λ p. omega (arith, get_or-take k xs 0 0 p, first (omega arith))) b less in
    octets_more b (number_from 0 xs) above ∙ ap (λ (n : ℕ). last_octets b n ++ (number_from 0 xs % 0x100 ∷ [])) q
    ∙ ap (λ (n : ℕ). last_octets b (number_from 0 ys) ++ (n ∷ [])) r ∙ ap (λ (s : List ℕ). s ++ (x ∷ [])) front ∙ sym split

nonzero : (xs : List ℕ) → (((r : List ℕ) × (xs ≡ 0 ∷ r)) → ⊥) → 0 < length xs → 0 < slice_index xs 0
nonzero [] no_zero l = l
nonzero (x ∷ xs) no_zero l = elim (cases_lt 0 x) [
  | inl p ↦ p
  | inr q ↦ let z : x ≡ 0 = omega arith in absurd (no_zero (xs, ap (λ (k : ℕ). k ∷ xs) z))
]

pub octets_are : (xs : List ℕ) → ((i : ℕ) → slice_index xs i < 0x100) → (0 < length xs → 0 < slice_index xs 0)
    → number_octets (number_from 0 xs) ≡ xs
octets_are xs small first =
    all_octets (number_from 0 xs) ∙ from_octets (length xs) xs refl small first (number_from 0 xs) (omega arith)

-- no octets of a number begin with 0
record Alone (ys : List ℕ) (r : ℕ) : Type 0 where
  none : ys ≡ []
  zero : r ≡ 0

record Before (ys : List ℕ) : Type 0 where
  more : List ℕ
  begins : ys ≡ (0 ∷ more)

front_zero : (ys : List ℕ) (r : ℕ) (xs : List ℕ) → (ys ++ (r ∷ [])) ≡ (0 ∷ xs) → Alone ys r ⊎ Before ys
front_zero [] r xs e = inl (record { none = refl; zero = cc })
front_zero (y ∷ ys) r xs e = let z : y ≡ 0 = cc in inr (record { more = ys; begins = ap (λ (k : ℕ). k ∷ ys) z })

none_begin : (n : ℕ) (xs : List ℕ) → last_octets zero n ≡ (0 ∷ xs) → ⊥
unfolding last_octets
none_begin n xs e = cc

no_leading : (b n : ℕ) (xs : List ℕ) → n ≤ b → last_octets b n ≡ (0 ∷ xs) → ⊥
no_leading zero n xs l e = none_begin n xs e
no_leading (suc b) n xs l e = elim (cases_lt 0 n) [
  | inl p ↦ elim (front_zero (last_octets b (n / 0x100)) (n % 0x100) xs (sym (octets_more b n p) ∙ e)) [
    | inl a ↦ omega (
      arith,
      a.zero,
      sym (number_last b (n / 0x100) (omega arith)) ∙ ap (number_from 0) a.none
          ∙ number_nil 0,
      div-add-mod n 0x100,
    )
    | inr w ↦ no_leading b (n / 0x100) w.more (omega arith) w.begins
  ]
  | inr q ↦
      let z : n ≡ 0 = omega arith in
      let f : [] ≡ (0 ∷ xs) = sym (octets_zero (suc b)) ∙ ap (last_octets (suc b)) (sym z) ∙ e in
      cc
]

-- what was read as a number
same_front : (n count : ℕ) (b o q s : List ℕ) → o ≡ take count b → length (number_octets n) ≡ count
    → b ≡ (number_octets n ++ s) → o ≡ number_octets n
same_front n count b o q s h l e =
    h ∙ ap (λ (k : ℕ). take k b) (sym l) ∙ ap (take (length (number_octets n))) e ∙ take-append_seam (number_octets n) s

pub leading : (count : ℕ) (b o r : List ℕ) → o ≡ take count b → o ≡ (0 ∷ r)
    → (n : ℕ) (s : List ℕ) → n ≤ length s → length (number_octets n) ≡ count → b ≡ (number_octets n ++ s) → ⊥
leading count b o r h z n s l c e =
    no_leading n n r (omega arith) (sym (all_octets n) ∙ sym (same_front n count b o [] s h c e) ∙ z)

pub overflows : (count : ℕ) (b o q : List ℕ) → o ≡ take count b → q ≡ drop count b → length o ≡ count
    → length q < number_from 0 o
    → (n : ℕ) (s : List ℕ) → n ≤ length s → length (number_octets n) ≡ count → b ≡ (number_octets n ++ s) → ⊥
overflows count b o q h k i large n s l c e =
    let f : drop count b ≡ s = ap (λ (m : ℕ). drop m b) (sym c) ∙ ap (drop (length (number_octets n))) e
    ∙ drop-append_seam (number_octets n) s in
    omega (arith, ap (number_from 0) (same_front n count b o [] s h c e), number_of n, ap length (k ∙ f))

pub is_number : (count n : ℕ) (b o q : List ℕ) → o ≡ take count b → q ≡ drop count b → length o ≡ count
    → ((i : ℕ) → slice_index b i < 0x100)
    → (((r : List ℕ) × (o ≡ 0 ∷ r)) → ⊥) → n ≡ number_from 0 o → (length (number_octets n) ≡ count)
    × (b ≡ (number_octets n ++ q))
is_number count n b o q h k l small first e =
    let are : number_octets n ≡ o = ap number_octets e ∙ octets_are o (λ i. rw h (small_front count b small i))
    (nonzero o first) in (
      ap length are ∙ l,
      sym (take-append-drop count b) ∙ ap (λ (s : List ℕ). s ++ drop count b) (sym h ∙ sym are)
          ∙ ap (λ (s : List ℕ). number_octets n ++ s) (sym k),
    )

-- the loop over octets
pub one_octet : (n total : ℕ) (xs : List ℕ) (i : ℕ) → i < length xs → number_from n (drop i xs) ≡ total
    → number_from (n * 0x100 + get_or xs i 0) (drop (i + 1) xs) ≡ total
one_octet n total xs i l e =
    rw add-one (sym (number_cons n (get_or xs i 0) (drop (suc i) xs)) ∙ sym (ap (number_from n) (drop-cons xs i 0 l)) ∙ e)

pub all_read : (n total : ℕ) (xs : List ℕ) (i : ℕ) → length xs ≤ i → number_from n (drop i xs) ≡ total → n ≡ total
all_read n total xs i l e = sym (number_nil n) ∙ sym (ap (number_from n) (drop_all i xs l)) ∙ e

pub too_large : (n total most : ℕ) (xs : List ℕ) (i : ℕ) → most < 0x1_0000_0000_0000_0000 → i < length xs
    → 0x100_0000_0000_0000 ≤ n
    → number_from n (drop i xs) ≡ total → most < total
too_large n total most xs i m l h e =
    omega (arith, one_octet n total xs i l e, grows (n * 0x100 + get_or xs i 0) (drop (i + 1) xs))
