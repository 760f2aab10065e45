-- The tables of the base points' multiples, by computing.
use Rattle.std.proofs.Common.{◌≡◌, ℕ, ◌+◌, ◌*◌, ◌%◌, ◌^◌, ◌<◌, true, List, [], length, get_or, refl}
use Rattle.residues.specs.Modulo.{plus, minus, times}
use Rattle.weierstrass.specs.Weierstrass.{triple, products, sum_of}
use Rattle.weierstrass.specs.Group.{spot_point}
use Rattle.weierstrass.specs.Jacobian.{IsMultiple}
use Rattle.weierstrass.proofs.Tables.{is_affine, are_rows, are_below, below_at, row_multiple}
use Rattle.ecdsa.specs.declared.bases.TheConstants.{TABLE_256, TABLE_384}
use Rattle.ecdsa.specs.Curves.{p256, b256, base256, p384, b384, base384}
use Rattle.ecdsa.specs.Moduli.{field_256_root, field_384_root}

-- the forms of a row's x and y
abbrev pub x_form_256 : List ℕ → ℕ
x_form_256 r = get_or r 0 0 + 2 ^ 128 * get_or r 1 0

abbrev pub y_form_256 : List ℕ → ℕ
y_form_256 r = get_or r 2 0 + 2 ^ 128 * get_or r 3 0

abbrev pub x_form_384 : List ℕ → ℕ
x_form_384 r = get_or r 0 0 + 2 ^ 128 * get_or r 1 0 + 2 ^ 256 * get_or r 2 0

abbrev pub y_form_384 : List ℕ → ℕ
y_form_384 r = get_or r 3 0 + 2 ^ 128 * get_or r 4 0 + 2 ^ 256 * get_or r 5 0

-- the number of a form
abbrev pub number_256 : ℕ → ℕ
number_256 form = (form * field_256_root) % p256

abbrev pub number_384 : ℕ → ℕ
number_384 form = (form * field_384_root) % p384

abbrev x_256 : List ℕ → ℕ
x_256 r = number_256 (x_form_256 r)

abbrev y_256 : List ℕ → ℕ
y_256 r = number_256 (y_form_256 r)

abbrev x_384 : List ℕ → ℕ
x_384 r = number_384 (x_form_384 r)

abbrev y_384 : List ℕ → ℕ
y_384 r = number_384 (y_form_384 r)

rows_256 : are_rows p256 b256 x_256 y_256 base256 TABLE_256 base256 ≡ true
unfolding are_rows is_affine sum_of triple products plus minus times p256 b256 base256
rows_256 = refl

x_below_256 : are_below p256 x_form_256 TABLE_256 ≡ true
unfolding are_below p256
x_below_256 = refl

y_below_256 : are_below p256 y_form_256 TABLE_256 ≡ true
unfolding are_below p256
y_below_256 = refl

rows_384 : are_rows p384 b384 x_384 y_384 base384 TABLE_384 base384 ≡ true
unfolding are_rows is_affine sum_of triple products plus minus times p384 b384 base384
rows_384 = refl

x_below_384 : are_below p384 x_form_384 TABLE_384 ≡ true
unfolding are_below p384
x_below_384 = refl

y_below_384 : are_below p384 y_form_384 TABLE_384 ≡ true
unfolding are_below p384
y_below_384 = refl

size_256 : length TABLE_256 ≡ 15
size_256 = refl

size_384 : length TABLE_384 ≡ 15
size_384 = refl

pub x_256-lt : (k : ℕ) → k < 15 → x_form_256 (get_or TABLE_256 k []) < p256
x_256-lt k h = below_at p256 x_form_256 TABLE_256 x_below_256 k (rw size_256 h)

pub y_256-lt : (k : ℕ) → k < 15 → y_form_256 (get_or TABLE_256 k []) < p256
y_256-lt k h = below_at p256 y_form_256 TABLE_256 y_below_256 k (rw size_256 h)

pub x_384-lt : (k : ℕ) → k < 15 → x_form_384 (get_or TABLE_384 k []) < p384
x_384-lt k h = below_at p384 x_form_384 TABLE_384 x_below_384 k (rw size_384 h)

pub y_384-lt : (k : ℕ) → k < 15 → y_form_384 (get_or TABLE_384 k []) < p384
y_384-lt k h = below_at p384 y_form_384 TABLE_384 y_below_384 k (rw size_384 h)

pub multiple_at_256 : (j k : ℕ) → 1 + k ≡ j → k < 15
    → IsMultiple p256 b256 j base256 (spot_point (number_256 (x_form_256 (get_or TABLE_256 k [])))
    (number_256 (y_form_256 (get_or TABLE_256 k []))))
multiple_at_256 j k e h = row_multiple p256 b256 base256 x_256 y_256 TABLE_256 rows_256 j k e (rw size_256 h)

pub multiple_at_384 : (j k : ℕ) → 1 + k ≡ j → k < 15
    → IsMultiple p384 b384 j base384 (spot_point (number_384 (x_form_384 (get_or TABLE_384 k [])))
    (number_384 (y_form_384 (get_or TABLE_384 k []))))
multiple_at_384 j k e h = row_multiple p384 b384 base384 x_384 y_384 TABLE_384 rows_384 j k e (rw size_384 h)
