-- The results of the tests of a key.
use Rattle.std.proofs.Common.{◌≡◌, ℕ, ◌-◌, ◌*◌, ◌%◌, ◌<◌, ◌≤◌, ◌⊎◌, inl, inr, Bool, true, false, ◌&&◌, eqb, leb, List}
use Rattle.std.proofs.Common.{length, get_or, Some, None, refl, sym, ap, ◌∙◌, arith}
use Rattle.std.specs.Prelude.{if◌then◌else◌}
use Rattle.std.specs.Bool.{then_some}
use Rattle.std.specs.Int.{w8, leading_zeros}
use Rattle.std.proofs.lemmas.Bool.{leb-true, le-leb, lt-leb}
use Rattle.modular.specs.Octets.{os2ip}
use Rattle.jwt_rsa.specs.Rsa.{bit_count}
use Rattle.jwt_rsa.specs.RsaKeys.{bits_fit, exponent_fits}
use Rattle.jwt_rsa.proofs.Bits.{bits_at, bits_fill}

if_some : (x : Bool) (b : ℕ) → then_some x b ≡ (if x then Some b else None)
if_some true b = refl
if_some false b = refl

and_false : (x y : Bool) → y ≡ false → (x && y) ≡ false
and_false true y h = h
and_false false y h = refl

and_true : (x y : Bool) → y ≡ true → (x && y) ≡ x
and_true true y h = h
and_true false y h = refl

and_first : (x y : Bool) → (x && y) ≡ true → x ≡ true
and_first true y h = refl
and_first false y h = h

-- octets that do not begin with 0 and are too few or too many
pub bits_refused : (n s : List ℕ) → bit_count s ≡ bit_count n → (0 < length s → 0 < get_or s 0 0) → get_or s 0 0 < 256
    → (length s < 256) ⊎ (2048 < length s) → bits_fit (bit_count n) ≡ false
bits_refused n s e f l (inl few) =
    let fill = bits_fill s f l in rw (lt-leb 2048 (bit_count n) (omega (arith, e, few, fill.0))) refl
bits_refused n s e f l (inr many) =
    let fill = bits_fill s f l in
    and_false (leb 2048 (bit_count n)) (leb (bit_count n) 16384) (lt-leb (bit_count n) 16384 (omega (arith, e, many, fill.1)))

-- octets that do not begin with 0 and are few enough
pub bits_taken : (n s : List ℕ) (B : ℕ) → bit_count s ≡ bit_count n → 0 < length s → 0 < get_or s 0 0
    → get_or s 0 0 < 256 → length s ≤ 2048
    → B ≡ 8 * length s - leading_zeros w8 (get_or s 0 0)
    → then_some (leb 2048 B) B ≡ (if bits_fit (bit_count n) then Some (bit_count n) else None)
bits_taken n s B e some f l short b =
    let at = bits_at s some f l in
    let is : B ≡ bit_count n = omega (arith, e, b, at) in
    let few : leb (bit_count n) 16384 ≡ true = le-leb (bit_count n) 16384 (omega (arith, e, at, short)) in
    rw is (if_some (leb 2048 (bit_count n)) (bit_count n)
    ∙ ap (λ x. if x then Some (bit_count n) else None) (sym (and_true (leb 2048 (bit_count n)) (leb (bit_count n) 16384) few)))

and_second : (x y : Bool) → (x && y) ≡ true → y ≡ true
and_second true y h = h
and_second false y h = cc

fitting : (t : Bool) (b c : ℕ) → bits_fit b ≡ t → Some c ≡ (if t then Some b else None) → (c ≡ b) × (2048 ≤ b) × (b ≤ 16384)
fitting false b c e h = cc
fitting true b c e h =
    let same : c ≡ b = cc in
    (same, leb-true 2048 b (and_first (leb 2048 b) (leb b 16384) e), leb-true b 16384 (and_second (leb 2048 b) (leb b 16384) e))

-- the bits that were counted are those of the modulus, and serve
pub bits_counted : (b c : ℕ) → Some c ≡ (if bits_fit b then Some b else None) → (c ≡ b) × (2048 ≤ b) × (b ≤ 16384)
bits_counted b c h = fitting (bits_fit b) b c refl h

-- an exponent of too many octets
pub exponent_refused : (e s : List ℕ) → bit_count s ≡ bit_count e → (0 < length s → 0 < get_or s 0 0) → get_or s 0 0 < 256
    → 8 < length s → exponent_fits e ≡ false
exponent_refused e s same f l many =
    let fill = bits_fill s f l in rw (lt-leb (bit_count e) 64 (omega (arith, same, many, fill.1))) refl

short_exponent : (e s : List ℕ) → bit_count s ≡ bit_count e → (0 < length s → 0 < get_or s 0 0) → get_or s 0 0 < 256
    → length s ≤ 8 → leb (bit_count e) 64 ≡ true
short_exponent e s same f l few = let fill = bits_fill s f l in le-leb (bit_count e) 64 (omega (arith, same, few, fill.0))

pub exponent_taken : (e s : List ℕ) (r : ℕ) (t : Bool) → bit_count s ≡ bit_count e → (0 < length s → 0 < get_or s 0 0)
    → get_or s 0 0 < 256
    → length s ≤ 8 → r ≡ os2ip e → 3 ≤ r → t ≡ eqb (r % 2) 1
    → then_some t r ≡ (if exponent_fits e then Some (os2ip e) else None)
exponent_taken e s r t same f l few is from odd =
    let short = short_exponent e s same f l few in
    let large : leb 3 (os2ip e) ≡ true = le-leb 3 (os2ip e) (omega (arith, is, from)) in
    rw (odd, is, short, large) (if_some (eqb (os2ip e % 2) 1) (os2ip e))

pub exponent_below : (e s : List ℕ) (r : ℕ) (t : Bool) → bit_count s ≡ bit_count e → (0 < length s → 0 < get_or s 0 0)
    → get_or s 0 0 < 256
    → length s ≤ 8 → r ≡ os2ip e → r < 3 → t ≡ false
    → then_some t r ≡ (if exponent_fits e then Some (os2ip e) else None)
exponent_below e s r t same f l few is below unset =
    let short = short_exponent e s same f l few in
    let small : leb 3 (os2ip e) ≡ false = lt-leb 3 (os2ip e) (omega (arith, is, below)) in
    rw (unset, short, small) refl
