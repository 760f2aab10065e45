-- The modulus and the exponent of an RSAPublicKey (RFC 8017 appendix A.1.1), as a function of its bytes. Both stand in
-- the bytes as
-- they are, so all that stands there is tried, and none is taken but those whose RSAPublicKey the bytes are.
-- The components of an RSA key in DER are said by a search (`rsa_components`), since the laws of providers ask for a
-- function of the bytes, where the other calls have a relation. Modulus and exponent stand in their RSAPublicKey as
-- they are, so the function tries each pair of what stands in the bytes, and takes the one whose RSAPublicKey they
-- are. So no way to read is among the definitions here either. Nothing runs it: the code reads the bytes once, from
-- front to back.
use Rattle.std.specs.Prelude.{ℕ, ◌+◌, List, Bool, ◌&&◌, Option, map, find, flat_map, length, slice_index, slice_range}
use Rattle.std.specs.Prelude.{nat_lt, bytes_eq}
use Rattle.std.specs.List.{range_with_len}
use Rattle.jwt_key_files.specs.PublicKeys.{rsa_public_key}

-- what stands in the bytes from any place to any other
unfoldable pub pieces_of : (bytes : List ℕ) → List (List ℕ)
pieces_of bytes =
    let places = range_with_len 0 (length bytes + 1) in flat_map (λ i. map (λ j. slice_range bytes i j) places) places

-- each of the lists next to each
unfoldable pub pairs_of : (lists : List (List ℕ)) → List (List ℕ × List ℕ)
pairs_of lists = flat_map (λ n. map (λ e. (n, e)) lists) lists

-- whether the bytes are the RSAPublicKey of these two numbers
unfoldable pub is_of_numbers : (bytes : List ℕ) (numbers : List ℕ × List ℕ) → Bool
is_of_numbers bytes numbers =
    bytes_eq bytes (rsa_public_key numbers.0 numbers.1) && (nat_lt 0 (slice_index numbers.0 0) && nat_lt 0
    (slice_index numbers.1 0))

-- the two numbers whose RSAPublicKey the bytes are, if there are such
unfoldable pub rsa_components : (bytes : List ℕ) → Option (List ℕ × List ℕ)
rsa_components bytes = find (is_of_numbers bytes) (pairs_of (pieces_of bytes))
