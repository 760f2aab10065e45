-- The distinguished encoding (ITU-T X.690 sections 8 and 10): an element is a tag, the octets of a length, and the content.
-- Definitions write an element and never read one: that there is one way to read follows, by proof.
use Rattle.std.specs.Prelude.{ℕ, zero, suc, ◌+◌, ◌/◌, ◌%◌, ◌<◌, List, [], ◌∷◌, ◌++◌, length, slice_index, nat_eq}
use Rattle.std.specs.Prelude.{nat_lt, if◌then◌else◌}

-- the last octets of a number, at most so many of them, without leading zeros
unfoldable pub last_octets : (count n : ℕ) → List ℕ
last_octets zero n = []
last_octets (suc count) n = if nat_eq n 0 then [] else last_octets count (n / 0x100) ++ (n % 0x100 ∷ [])

-- the octets of a number, the most significant first, the fewest that there are: no number has more octets than it counts
unfoldable pub number_octets : (n : ℕ) → List ℕ
number_octets n = last_octets n n

-- the octets of a length: itself, or from 0x80 on how many octets the number has, and these (sections 8.1.3.4, 8.1.3.5
-- and 10.1)
unfoldable pub length_octets : (n : ℕ) → List ℕ
length_octets n = if nat_lt n 0x80 then n ∷ [] else (0x80 + length (number_octets n)) ∷ number_octets n

-- an element (section 8.1.1)
unfoldable pub element : (tag : ℕ) (content : List ℕ) → List ℕ
element tag content = tag ∷ length_octets (length content) ++ content

-- the number of these octets, the most significant first, is positive, and no octet is superfluous
abbrev pub IsPositive : (octets : List ℕ) → Type 0
IsPositive octets = 0 < slice_index octets 0

-- the content of the INTEGER of such a number: its first bit is the sign, so that a 0 stands before an octet from 0x80 on
-- (section 8.3)
unfoldable pub signed : (octets : List ℕ) → List ℕ
signed octets = if nat_lt (slice_index octets 0) 0x80 then octets else 0 ∷ octets

-- the INTEGER, a SEQUENCE (section 8.9), and the BIT STRING of octets, of whose last no bit is unused (section 8.6)
unfoldable pub integer : (octets : List ℕ) → List ℕ
integer octets = element 2 (signed octets)

unfoldable pub sequence : (content : List ℕ) → List ℕ
sequence content = element 0x30 content

unfoldable pub bit_string : (octets : List ℕ) → List ℕ
bit_string octets = element 3 (0 ∷ octets)
