-- A signature of one message that was made elsewhere, as a provider that signs.
use Rattle.std.specs.Prelude.{◌≡◌, ◌≢◌, ℕ, List, Bool, not, nat_eq, length, bytes_eq, codes, Option, None, Some, if◌then◌else◌}
use denote.Enum.Bare.{sameb}
use Rattle.jwt_base.specs.Algorithm.{family_of}
use Rattle.jwt_base.specs.Kind.{Kind}
use Rattle.jwt_base.specs.Kind as kind
use Rattle.jwt_base.specs.declared.algorithms.Algorithm.{Algorithm}
use Rattle.jwt_base.specs.declared.algorithms.Algorithm.TheVariants.{HS256, HS384, HS512, RS256, RS384, RS512, PS256}
use Rattle.jwt_base.specs.declared.algorithms.Algorithm.TheVariants.{PS384, PS512, ES256, ES384, EdDSA}
use Rattle.jwt_base.specs.contracts.algorithms.Algorithm.{the_type as algorithms}
use Rattle.jwt_keys.specs.FamilyRefusal.{family_refusal}
use Rattle.jwt_keys.specs.Key.{SecretKey}

-- this signature of this message, by this algorithm
pub record GivenSignature : Type 0 where
  pub algorithm : Algorithm
  pub message : List ℕ
  pub signature : List ℕ

-- it is about this message, and these are its bytes
pub record IsGiven (g : GivenSignature) (m s : List ℕ) : Type 0 where
  pub message : m ≡ g.message
  pub signature : s ≡ g.signature

-- How many bytes a signature has: those of the digest (RFC 7518 section 3.2), those of r and s (RFC 7518 section 3.4), and 64
-- for Ed25519 (RFC 8037 section 3.1, RFC 8032 section 5.1.6). Of RSA the key decides: as many as the modulus has (RFC 8017
-- sections 8.1.1 and 8.2.1).
abbrev pub signature_length : Algorithm → Option ℕ
signature_length HS256 = Some 32
signature_length HS384 = Some 48
signature_length HS512 = Some 64
signature_length RS256 = None
signature_length RS384 = None
signature_length RS512 = None
signature_length PS256 = None
signature_length PS384 = None
signature_length PS512 = None
signature_length ES256 = Some 64
signature_length ES384 = Some 96
signature_length EdDSA = Some 64

-- the bytes are as many, if the algorithm fixes how many there are, and else one at least: a modulus has bytes
abbrev pub AreAsMany : Option ℕ → List ℕ → Type 0
AreAsMany None s = length s ≢ 0
AreAsMany (Some n) s = length s ≡ n

abbrev pub HasLength : Algorithm → List ℕ → Type 0
HasLength a s = AreAsMany (signature_length a) s

abbrev pub are_as_many : Option ℕ → List ℕ → Bool
are_as_many None s = not (nat_eq (length s) 0)
are_as_many (Some n) s = nat_eq (length s) n

-- the strings of a refusal
abbrev pub another_message : List ℕ
another_message = codes "another message"

abbrev pub length_text : Algorithm → List ℕ
length_text HS256 = codes "a signature by HS256 has 32 bytes"
length_text HS384 = codes "a signature by HS384 has 48 bytes"
length_text HS512 = codes "a signature by HS512 has 64 bytes"
length_text ES256 = codes "a signature by ES256 has 64 bytes: r and s, and no DER"
length_text ES384 = codes "a signature by ES384 has 96 bytes: r and s, and no DER"
length_text EdDSA = codes "a signature by EdDSA has 64 bytes"
length_text other = codes "a signature by RSA has as many bytes as the modulus"

-- why no signer is made by this algorithm and key: it is another algorithm, or the key is not of its family
abbrev pub signer_refusal_by : GivenSignature → Algorithm → SecretKey → Option Kind
signer_refusal_by g a k =
    if sameb algorithms g.algorithm a
    then family_refusal k.family (family_of a)
    else Some kind.InvalidAlgorithm

-- why the signature is not given for this message: it is of another one, or does not have the length
abbrev pub sign_refusal_by : GivenSignature → List ℕ → Option Kind
sign_refusal_by g m =
    if bytes_eq m g.message
    then (if are_as_many (signature_length g.algorithm) g.signature
    then None
    else Some (kind.Signing (length_text g.algorithm)))
    else Some (kind.Signing another_message)
