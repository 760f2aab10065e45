-- The number that octets are the digits of.
use Rattle.std.specs.Prelude.{ℕ, ◌+◌, ◌*◌, List, [], ◌∷◌}

-- the number of the octets that follow this number, the most significant first
unfoldable pub number_from : (n : ℕ) (octets : List ℕ) → ℕ
number_from n [] = n
number_from n (octet ∷ octets) = number_from (n * 0x100 + octet) octets
