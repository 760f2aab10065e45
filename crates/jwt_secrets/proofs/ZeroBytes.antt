-- The bits of all bytes joined, and the bytes that are 0.
use Rattle.std.proofs.Common.{◌≡◌, ◌↔◌, ℕ, ◌+◌, ◌<◌, ◌≤◌, IsTrue, nat_eq, List, length, take, get_or, bit_or, ap, sym}
use Rattle.std.proofs.Common.{subst, ◌∙◌, arith}
use Rattle.std.specs.Int.Bits.{or_zero_l}
use Rattle.std.proofs.lemmas.Nat.{le_or_l, le_or_r}
use Rattle.std.proofs.lemmas.List.{get_or-take, take-take, take_all, length-take}
use Rattle.std.proofs.lemmas.List.Elements.{All-more, All-take}
use Rattle.std.proofs.lemmas.Bool.Decides.{nat_tests}
use Rattle.jwt_secrets.specs.Blank.{IsBlank}

left_of_or : (a b : ℕ) → bit_or a b ≡ 0 → a ≡ 0
left_of_or a b h = let l = le_or_l a b in omega arith

right_of_or : (a b : ℕ) → bit_or a b ≡ 0 → b ≡ 0
right_of_or a b h = let l = le_or_r a b in omega arith

fewer : (xs : List ℕ) (i : ℕ) → IsBlank (take (i + 1) xs) → IsBlank (take i xs)
fewer xs i h = subst IsBlank (take-take i (i + 1) xs (omega arith)) (All-take (λ byte. byte ≡ 0) i (take (i + 1) xs) h)

last : (xs : List ℕ) (i : ℕ) → i < length xs → IsBlank (take (i + 1) xs) → get_or xs i 0 ≡ 0
last xs i within h = sym (get_or-take (i + 1) xs i 0 (omega arith)) ∙ h i 0 (omega (arith, length-take {A = ℕ}))

-- joined with one more byte, the bits are those of one more byte
pub one_more : (xs : List ℕ) (i bits : ℕ) → i < length xs → (bits ≡ 0) ↔ IsBlank (take i xs)
    → (bit_or bits (get_or xs i 0) ≡ 0) ↔ IsBlank (take (i + 1) xs)
one_more xs i bits within so_far = (
  λ h. All-more (λ byte. byte ≡ 0) xs i 0 within (so_far.0 (left_of_or bits (get_or xs i 0) h))
      (right_of_or bits (get_or xs i 0) h),
  λ h. ap (λ b. bit_or b (get_or xs i 0)) (so_far.1 (fewer xs i h)) ∙ or_zero_l (get_or xs i 0) ∙ last xs i within h,
)

-- the bits of all bytes
pub all_bytes : (xs : List ℕ) (n bits : ℕ) → length xs ≤ n → (bits ≡ 0) ↔ IsBlank (take n xs) → IsTrue (nat_eq bits 0)
    ↔ IsBlank xs
all_bytes xs n bits past h =
    let all : (bits ≡ 0) ↔ IsBlank xs = subst (λ ys. (bits ≡ 0) ↔ IsBlank ys) (take_all n xs past) h in
    (λ t. all.0 (grind (arith, nat_tests)), λ b. let z = all.1 b in grind (arith, nat_tests))
