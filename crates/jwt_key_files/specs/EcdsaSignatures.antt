-- ECDSA signatures: in DER (RFC 3279 section 2.2.3), and as the two numbers of fixed length that a token has (RFC 7518
-- section 3.4).
use Rattle.std.specs.Prelude.{◌≡◌, ◌⊎◌, ℕ, ◌-◌, ◌≤◌, List, ◌++◌, length, replicate, Option, None, Some}
use Rattle.jwt_base.specs.Kind.{Kind}
use Rattle.jwt_base.specs.Kind as kind
use Rattle.jwt_base.specs.declared.algorithms.Algorithm.{Algorithm}
use Rattle.jwt_base.specs.declared.algorithms.Algorithm.TheVariants.{ES256, ES384}
use Rattle.jwt_key_files.specs.Der.{integer, sequence, IsPositive}

-- an ECDSA-Sig-Value, of the octets of its numbers (RFC 3279 section 2.2.3)
unfoldable pub ecdsa_sig_value : (r s : List ℕ) → List ℕ
ecdsa_sig_value r s = sequence (integer r ++ integer s)

-- how many octets each of the two numbers has in a token; no other algorithm is of ECDSA (RFC 7518 section 3.4)
abbrev pub number_length : Algorithm → Option ℕ
number_length ES256 = Some 32
number_length ES384 = Some 48
number_length other = None

-- the octets, after so many zeros that there are this many (RFC 7518 section 3.4, SEC 1 section 2.3.7)
abbrev pub filled : (size : ℕ) (octets : List ℕ) → List ℕ
filled size octets = replicate (size - length octets) 0 ++ octets

-- the two positive numbers of the ECDSA-Sig-Value, one after the other in this many octets each
pub record AreNumbersOf (size : ℕ) (der signature : List ℕ) : Type 0 where
  pub r : List ℕ
  pub s : List ℕ
  pub r_is_positive : IsPositive r
  pub s_is_positive : IsPositive s
  pub der_is : der ≡ ecdsa_sig_value r s
  pub r_fits : length r ≤ size
  pub s_fits : length s ≤ size
  pub signature_is : signature ≡ filled size r ++ filled size s

-- the signature has the two numbers, each in as many octets as the algorithm asks for
abbrev pub IsSignatureOf : Algorithm → (der signature : List ℕ) → Type 0
IsSignatureOf algorithm der signature =
    (size : ℕ) × ((number_length algorithm ≡ Some size) × AreNumbersOf size der signature)

-- the bytes hold no such numbers, and this is the kind of the refusal
abbrev pub IsSignatureRefused : Algorithm → (der : List ℕ) → (refusal : Kind) → Type 0
IsSignatureRefused algorithm der refusal =
    ((refusal ≡ kind.InvalidAlgorithm) × (number_length algorithm ≡ None))
    ⊎ ((refusal ≡ kind.InvalidSignature)
    × ((size : ℕ) × ((number_length algorithm ≡ Some size) × ((signature : List ℕ) → ¬ AreNumbersOf size der signature))))
