-- The lowest octets of a number, and what is consistent with a message.
use Rattle.std.proofs.Common.{◌≡◌, ◌≢◌, ◌↔◌, ℕ, zero, suc, ◌-◌, ◌*◌, ◌/◌, ◌%◌, ◌^◌, ◌<◌, ◌≤◌, List, length, get_or}
use Rattle.std.proofs.Common.{drop, refl, sym, ap, subst, ◌∙◌, arith}
use Rattle.std.proofs.Math.Nat.{pow-le-pow_right, pow-succ'}
use Rattle.std.proofs.lemmas.Nat.{mod_below, div-add-mod', div_below}
use Rattle.modular.specs.Octets.{os2ip, i2osp}
use Rattle.jwt_crypto.specs.declared.hmac.Hash.{Hash}
use Rattle.jwt_rsa.specs.Rsa.{octet_count, IsRepresentative, rsavp1}
use Rattle.jwt_rsa.specs.Pss.{front_bits, IsConsistent, IsPssSignature}
use Rattle.jwt_rsa.proofs.Bits.{pow_octets}

pub length-i2osp : (x n : ℕ) → length (i2osp x n) ≡ n
unfolding i2osp
length-i2osp x zero = refl
length-i2osp x (suc n) = ap suc (length-i2osp x n)

pos_pow : (n : ℕ) → 0 < 256 ^ n
pos_pow n = let some : 256 ^ 0 ≤ 256 ^ n = pow-le-pow_right (omega arith) {i = 0} {j = n} (omega arith) in omega (arith, some)

-- a number that is divided to 0 is less than the divisor
below_from_zero : (x P : ℕ) → 0 < P → x < 256 * P → x / P % 256 ≡ 0 → x < P
below_from_zero x P some small none =
    let quotient : x / P < 256 = div_below x P 256 some small in
    let zero_is : x / P ≡ 0 = omega (arith, quotient, none) in
    omega (arith, div-add-mod' x P, mod_below x P some, ap (λ z. z * P) zero_is)

zero_from_below : (x P : ℕ) → 0 < P → x < P → x / P % 256 ≡ 0
zero_from_below x P some small =
    let whole : x < 1 * P = omega (arith, small) in
    let quotient : x / P < 1 = div_below x P 1 some whole in omega (arith, quotient)

-- the octets of a number, one more than it takes
front_is : (x n : ℕ) (xs : List ℕ) → xs ≡ i2osp x (suc n) → get_or xs 0 0 ≡ x / 256 ^ n % 256
unfolding i2osp
front_is x n xs e = rw e refl

rest_is : (x n : ℕ) (xs : List ℕ) → xs ≡ i2osp x (suc n) → drop 1 xs ≡ i2osp x n
unfolding i2osp
rest_is x n xs e = rw e refl

pub fits_without_front : (x n : ℕ) (xs : List ℕ) → length xs ≡ suc n → xs ≡ i2osp x (length xs) → x < 256 ^ length xs
    → get_or xs 0 0 ≡ 0
    → (x < 256 ^ n) × (drop 1 xs ≡ i2osp x n)
fits_without_front x n xs l e small front =
    let e' : xs ≡ i2osp x (suc n) = e ∙ ap (λ z. i2osp x z) l in
    let small' : x < 256 ^ suc n = let P : ℕ → Type 0 = λ z. x < 256 ^ z in subst P l small in
    let more : 256 ^ suc n ≡ 256 * 256 ^ n = rw pow-succ' refl in
    let small'' : x < 256 * 256 ^ n = let P : ℕ → Type 0 = λ z. x < z in subst P more small' in
    (below_from_zero x (256 ^ n) (pos_pow n) small'' (sym (front_is x n xs e') ∙ front), rest_is x n xs e')

pub too_large : (x n : ℕ) (xs : List ℕ) → length xs ≡ suc n → xs ≡ i2osp x (length xs) → get_or xs 0 0 ≢ 0 → x < 256 ^ n → ⊥
too_large x n xs l e front small =
    let e' : xs ≡ i2osp x (suc n) = e ∙ ap (λ z. i2osp x z) l in
    front (front_is x n xs e' ∙ zero_from_below x (256 ^ n) (pos_pow n) small)

-- RSAVP1 fits the octets of the modulus
pub power_fits : (n e bits s : ℕ) → 0 < n → n < 2 ^ bits → rsavp1 n e s < 256 ^ octet_count bits
power_fits n e bits s some below =
    let enough : bits ≤ 8 * octet_count bits = omega arith in
    let most : 2 ^ bits ≤ 2 ^ (8 * octet_count bits) =
    pow-le-pow_right (omega arith) {i = bits} {j = 8 * octet_count bits} enough in
    rw (pow_octets (octet_count bits)) (omega (arith, mod_below (s ^ e) n some, below, most))

pub pss_decides : (h : Hash) (n e bits : ℕ) (m s em : List ℕ) → IsRepresentative n bits s
    → rsavp1 n e (os2ip s) < 256 ^ octet_count (bits - 1) → em ≡ i2osp (rsavp1 n e (os2ip s)) (octet_count (bits - 1))
    → IsConsistent h (front_bits (bits - 1)) m em ↔ IsPssSignature h n e bits m s
pss_decides h n e bits m s em r f is =
    let P : List ℕ → Type 0 = λ z. IsConsistent h (front_bits (bits - 1)) m z in
    (λ c. record { representative = r; fits = f; consistent = subst P is c }, λ p. subst P (sym is) p.consistent)
