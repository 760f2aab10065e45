-- The public operation of RSA (RFC 8017), and the sizes of its numbers.
use Rattle.std.specs.Prelude.{◌≡◌, ℕ, ◌+◌, ◌-◌, ◌*◌, ◌/◌, ◌%◌, ◌^◌, ◌<◌, ◌≤◌, List, [], ◌∷◌, length, if◌then◌else◌, ◌==◌}
use Rattle.std.specs.Int.{w8, leading_zeros}
use Rattle.modular.specs.Octets.{os2ip}

-- modBits, the number of bits of the number that these octets are (RFC 8017 section 8.1.1); octets
-- of 0 at their front count for nothing
unfoldable pub bit_count : List ℕ → ℕ
bit_count [] = 0
bit_count (x ∷ xs) = if x == 0 then bit_count xs else 8 - leading_zeros w8 x + 8 * length xs

-- the number has this many bits
pub record HasBits (n bits : ℕ) : Type 0 where
  pub below : n < 2 ^ bits
  pub from : 0 < bits → 2 ^ (bits - 1) ≤ n

-- as many octets as these bits take, ceil(bits / 8): of modBits this is k, the length of the modulus
-- in octets (RFC 8017 section 3.1)
abbrev pub octet_count : ℕ → ℕ
octet_count bits = (bits + 7) / 8

-- the signature has as many octets as the modulus, and its number is from 0 to n - 1 (RFC 8017
-- section 8.2.2 step 1, section 5.2.2 step 1)
pub record IsRepresentative (n bits : ℕ) (s : List ℕ) : Type 0 where
  pub length_is : length s ≡ octet_count bits
  pub in_range : os2ip s < n

-- RSAVP1: s ^ e mod n (RFC 8017 section 5.2.2 step 2)
abbrev pub rsavp1 : ℕ → ℕ → ℕ → ℕ
rsavp1 n e s = s ^ e % n
