-- HMAC (RFC 2104) over SHA-2.
use Rattle.std.specs.Prelude.{◌≡◌, ℕ, ◌-◌, List, take, ◌++◌, length, map, replicate, nat_lt, bit_xor, if◌then◌else◌}
use Rattle.sha2.specs.Sha256.{sha256}
use Rattle.sha2.specs.Sha512.{sha384, sha512}
use Rattle.jwt_crypto.specs.declared.hmac.Hash.{Hash}
use Rattle.jwt_crypto.specs.declared.hmac.Hash.TheVariants.{Sha256, Sha384, Sha512}

-- H (RFC 2104 section 2, RFC 7518 section 3.2)
abbrev pub hash_bytes : Hash → List ℕ → List ℕ
hash_bytes Sha256 m = sha256 m
hash_bytes Sha384 m = sha384 m
hash_bytes Sha512 m = sha512 m

-- B, the length of a block in bytes (RFC 2104 section 2)
abbrev pub block_len : Hash → ℕ
block_len Sha256 = 64
block_len Sha384 = 128
block_len Sha512 = 128

-- the key, or its digest if it is longer than B (RFC 2104 section 2)
abbrev pub short_key : Hash → List ℕ → List ℕ
short_key h k = if nat_lt (block_len h) (length k) then hash_bytes h k else k

-- filled with zero bytes to n (RFC 2104 section 2)
abbrev pub filled : ℕ → List ℕ → List ℕ
filled n k = k ++ replicate (n - length k) 0

-- K', of B bytes (RFC 2104 section 2)
unfoldable pub key_block : Hash → List ℕ → List ℕ
key_block h k = filled (block_len h) (short_key h k)

-- each byte xor the mask (RFC 2104 section 2)
abbrev pub masked : ℕ → List ℕ → List ℕ
masked mask bytes = map (λ b. bit_xor b mask) bytes

-- H(outer ++ H(inner ++ m)) (RFC 2104 section 2)
unfoldable pub nested : Hash → List ℕ → List ℕ → List ℕ → List ℕ
nested h inner outer m = hash_bytes h (outer ++ hash_bytes h (inner ++ m))

-- K' xor ipad, each byte of which is 36 hex (RFC 2104 section 2)
abbrev pub inner_block : Hash → List ℕ → List ℕ
inner_block h k = masked 0x36 (key_block h k)

-- K' xor opad, each byte of which is 5C hex (RFC 2104 section 2)
abbrev pub outer_block : Hash → List ℕ → List ℕ
outer_block h k = masked 0x5c (key_block h k)

-- H((K' xor opad) ++ H((K' xor ipad) ++ m)) (RFC 2104 section 2)
unfoldable pub hmac : Hash → List ℕ → List ℕ → List ℕ
hmac h k m = nested h (inner_block h k) (outer_block h k) m

-- the code of a message by two blocks, of which the first B bytes count (RFC 2104 section 2)
abbrev pub mac_by : Hash → List ℕ → List ℕ → List ℕ → List ℕ
mac_by h inner outer m = nested h (take (block_len h) inner) (take (block_len h) outer) m

-- one K' of B bytes gives both blocks
abbrev pub HaveOneKey : Hash → List ℕ → List ℕ → Type 0
HaveOneKey h inner outer =
    masked 0x36 (take (block_len h) inner) ≡ masked 0x5c (take (block_len h) outer)
