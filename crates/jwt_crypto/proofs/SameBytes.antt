-- The differences of two lists of bytes, and the sameness of the two.
use Rattle.std.proofs.Common.{◌≡◌, ◌∙◌, ℕ, ◌+◌, ◌<◌, List, length, take, get_or, bit_or, bit_xor, sym, ap, arith}
use Rattle.std.proofs.lemmas.Nat.{le_or_l, le_or_r}
use Rattle.std.proofs.lemmas.List.{take_more_same, get_or-take, take-take}
use Rattle.std.specs.Int.Bits.{xor_self, xor_zero_l, or_zero_l}
use Rattle.jwt_crypto.proofs.HmacMasks.{xor_twice}

-- only a byte itself differs from it by nothing
pub same_of_xor : (a b : ℕ) → bit_xor a b ≡ 0 → a ≡ b
same_of_xor a b h = sym (xor_twice b a) ∙ ap (λ x. bit_xor x b) h ∙ xor_zero_l b

pub xor_of_same : (a b : ℕ) → a ≡ b → bit_xor a b ≡ 0
xor_of_same a b h = ap (λ x. bit_xor x b) h ∙ xor_self b

pub left_of_or : (a b : ℕ) → bit_or a b ≡ 0 → a ≡ 0
left_of_or a b h = let l = le_or_l a b in omega arith

pub right_of_or : (a b : ℕ) → bit_or a b ≡ 0 → b ≡ 0
right_of_or a b h = let l = le_or_r a b in omega arith

-- if one more byte differs by nothing, one more is the same
pub one_more : (xs ys : List ℕ) (i d : ℕ) → i < length xs → i < length ys → (d ≡ 0 → take i ys ≡ take i xs)
    → bit_or d (bit_xor (get_or xs i 0) (get_or ys i 0)) ≡ 0 → take (i + 1) ys ≡ take (i + 1) xs
one_more xs ys i d p q so_far h =
    let x = get_or xs i 0 in
    let y = get_or ys i 0 in
    take_more_same ys xs i 0 q p (so_far (left_of_or d (bit_xor x y) h)) (sym (same_of_xor x y (right_of_or d (bit_xor x y) h)))

-- if one more is the same, the bytes before it are, and it differs by nothing
pub one_fewer : (xs ys : List ℕ) (i d : ℕ) → (take i ys ≡ take i xs → d ≡ 0)
    → take (i + 1) ys ≡ take (i + 1) xs → bit_or d (bit_xor (get_or xs i 0) (get_or ys i 0)) ≡ 0
one_fewer xs ys i d so_far h =
    let x = get_or xs i 0 in
    let y = get_or ys i 0 in
    let before : take i ys ≡ take i xs = sym (take-take i (i + 1) ys (omega arith)) ∙ ap (take i) h
    ∙ take-take i (i + 1) xs (omega arith) in
    let here : y ≡ x = sym (get_or-take (i + 1) ys i 0 (omega arith)) ∙ ap (λ l. get_or l i 0) h
    ∙ get_or-take (i + 1) xs i 0 (omega arith) in
    ap (λ e. bit_or e (bit_xor x y)) (so_far before) ∙ or_zero_l (bit_xor x y) ∙ xor_of_same x y (sym here)
