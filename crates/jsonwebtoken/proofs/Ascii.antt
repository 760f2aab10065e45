-- A part is ASCII, and so is the message that is signed.
use Rattle.std.proofs.Common.{◌≡◌, refl, ℕ, ◌<◌, ◌/◌, ◌%◌, ◌*◌, ◌+◌, zero, suc, List, [], ◌∷◌, Bool, true, false, ◌&&◌}
use Rattle.std.proofs.Common.{slice_index, arith}
use Rattle.std.specs.Prelude.{All, ltb}
use Rattle.std.specs.List.{list_all}
use Rattle.std.specs.Str.{IsAscii}
use Rattle.std.proofs.lemmas.Bool.{ltb-true, false≢true}
use Rattle.std.proofs.lemmas.List.Elements.{All-nil, All-cons}
use Rattle.std.proofs.lemmas.Str.{IsAscii-append}
use Rattle.std.proofs.lemmas.Str.Ascii.{IsAscii-from_all, IsAscii-nil}
use Rattle.base64.specs.GeneralPurpose.{IsBytes}
use Rattle.base64.specs.Rfc4648.{encode_symbols}
use Rattle.jwt_base.specs.Base64Url.{IsPart, url_characters}
use Rattle.jsonwebtoken.specs.Tests.{dot, Parts, message_of}

both : (x y : Bool) → (x && y) ≡ true → (x ≡ true) × (y ≡ true)
both true true e = (refl, refl)
both true false e = absurd (false≢true e)
both false y e = absurd (false≢true e)

all_small : (xs : List ℕ) → list_all (λ b. ltb b 128) xs ≡ true → All (λ b. b < 128) xs
all_small [] e = All-nil (λ b. b < 128)
all_small (x ∷ xs) e = let p = both (ltb x 128) (list_all (λ b. ltb b 128) xs) e in
    All-cons (λ b. b < 128) x xs (ltb-true x 128 p.0) (all_small xs p.1)

pub ascii : (xs : List ℕ) → list_all (λ b. ltb b 128) xs ≡ true → IsAscii xs
ascii xs e = IsAscii-from_all xs (all_small xs e)

pub bytes_of : (xs : List ℕ) → IsAscii xs → IsBytes xs
bytes_of xs small i = omega (arith, small i)

ascii_cons : (x : ℕ) (xs : List ℕ) → x < 128 → IsAscii xs → IsAscii (x ∷ xs)
ascii_cons x xs small rest zero = small
ascii_cons x xs small rest (suc i) = rest i

encoded_ascii : (t m : List ℕ) → IsAscii t → IsAscii (encode_symbols t m)
unfolding encode_symbols
encoded_ascii t [] h = IsAscii-nil
encoded_ascii t (a ∷ []) h =
    let y = slice_index t (a % 4 * 16) in
    ascii_cons (slice_index t (a / 4)) (y ∷ []) (h (a / 4)) (ascii_cons y [] (h (a % 4 * 16)) IsAscii-nil)
encoded_ascii t (a ∷ b ∷ []) h =
    let y = slice_index t (a % 4 * 16 + b / 16) in
    let z = slice_index t (b % 16 * 4) in
    ascii_cons (slice_index t (a / 4)) (y ∷ z ∷ []) (h (a / 4))
    (ascii_cons y (z ∷ []) (h (a % 4 * 16 + b / 16)) (ascii_cons z [] (h (b % 16 * 4)) IsAscii-nil))
encoded_ascii t (a ∷ b ∷ c ∷ rest) h =
    let y = slice_index t (a % 4 * 16 + b / 16) in
    let z = slice_index t (b % 16 * 4 + c / 64) in
    let w = slice_index t (c % 64) in
    let more = encode_symbols t rest in
    ascii_cons (slice_index t (a / 4)) (y ∷ z ∷ w ∷ more) (h (a / 4))
    (ascii_cons y (z ∷ w ∷ more) (h (a % 4 * 16 + b / 16))
    (ascii_cons z (w ∷ more) (h (b % 16 * 4 + c / 64)) (ascii_cons w more (h (c % 64)) (encoded_ascii t rest h))))

pub part_ascii : (text b : List ℕ) → IsPart text b → IsAscii text
part_ascii text b p = rw p.1 (encoded_ascii url_characters b (ascii url_characters refl))

-- the message that is signed of two parts
pub message_bytes : (p : Parts) (h b : List ℕ) → IsPart p.header h → IsPart p.payload b → IsBytes (message_of p)
message_bytes p h b ph pb =
    bytes_of (message_of p) (IsAscii-append p.header (dot ∷ p.payload) (part_ascii p.header h ph)
    (ascii_cons dot p.payload (omega arith) (part_ascii p.payload b pb)))
