-- Public keys in DER: SubjectPublicKeyInfo (RFC 5280 section 4.1) and RSAPublicKey (RFC 8017 appendix A.1.1).
use Rattle.std.specs.Prelude.{◌≡◌, ◌≢◌, ◌⊎◌, ℕ, ◌+◌, ◌≤◌, List, [], ◌∷◌, ◌++◌, length, slice_index, codes}
use Rattle.jwt_base.specs.Kind.{Kind}
use Rattle.jwt_base.specs.Kind as kind
use Rattle.jwt_base.specs.declared.algorithms.AlgorithmFamily.TheVariants as family
use Rattle.jwt_keys.specs.Key.{Key, Plain, Components}
use Rattle.jwt_key_files.specs.Der.{element, integer, sequence, bit_string, IsPositive}
use Rattle.jwt_key_files.specs.declared.scheme.Scheme.{Scheme}
use Rattle.jwt_key_files.specs.declared.scheme.Scheme.TheVariants as scheme

-- the contents of OBJECT IDENTIFIERs: rsaEncryption (RFC 3279 section 2.3.1), id-ecPublicKey, secp256r1 and secp384r1 (RFC 5480
-- section 2.1.1), id-Ed25519 (RFC 8410 section 3)
abbrev pub rsa_encryption : List ℕ
rsa_encryption = 0x2a ∷ 0x86 ∷ 0x48 ∷ 0x86 ∷ 0xf7 ∷ 0x0d ∷ 1 ∷ 1 ∷ 1 ∷ []

abbrev pub ec_public_key : List ℕ
ec_public_key = 0x2a ∷ 0x86 ∷ 0x48 ∷ 0xce ∷ 0x3d ∷ 2 ∷ 1 ∷ []

abbrev pub secp256r1 : List ℕ
secp256r1 = 0x2a ∷ 0x86 ∷ 0x48 ∷ 0xce ∷ 0x3d ∷ 3 ∷ 1 ∷ 7 ∷ []

abbrev pub secp384r1 : List ℕ
secp384r1 = 0x2b ∷ 0x81 ∷ 4 ∷ 0 ∷ 0x22 ∷ []

abbrev pub id_ed25519 : List ℕ
id_ed25519 = 0x2b ∷ 0x65 ∷ 0x70 ∷ []

-- an OBJECT IDENTIFIER (X.690 section 8.19)
unfoldable pub object_identifier : (content : List ℕ) → List ℕ
object_identifier content = element 6 content

-- the content of the AlgorithmIdentifier: the object identifier, and as parameters NULL, the curve or none
unfoldable pub identifier : Scheme → List ℕ
identifier scheme.Rsa = object_identifier rsa_encryption ++ element 5 []
identifier scheme.P256 = object_identifier ec_public_key ++ object_identifier secp256r1
identifier scheme.P384 = object_identifier ec_public_key ++ object_identifier secp384r1
identifier scheme.Ed25519 = object_identifier id_ed25519

-- an RSAPublicKey, of the octets of its numbers
unfoldable pub rsa_public_key : (n e : List ℕ) → List ℕ
rsa_public_key n e = sequence (integer n ++ integer e)

-- a SubjectPublicKeyInfo, of the content of the AlgorithmIdentifier and of the key's octets
unfoldable pub subject_public_key_info : (algorithm key : List ℕ) → List ℕ
subject_public_key_info algorithm key = sequence (sequence algorithm ++ bit_string key)

-- the octets are the RSAPublicKey of the key
abbrev pub IsRsaKey : (octets : List ℕ) → Key → Type 0
IsRsaKey octets key =
    (n : List ℕ) × ((e : List ℕ) × ((key ≡ Components n e) × IsPositive n × IsPositive e × (octets ≡ rsa_public_key n e)))

-- the octets are an uncompressed point whose coordinates have this many octets (RFC 5480 section 2.2, SEC 1 section 2.3.3)
abbrev pub IsPoint : (size : ℕ) (octets : List ℕ) → Key → Type 0
IsPoint size octets key = (key ≡ Plain family.Ec octets) × (length octets ≡ 1 + size + size) × (slice_index octets 0 ≡ 4)

-- the octets are a key of Ed25519 (RFC 8410 section 4, RFC 8032 section 5.1.5)
abbrev pub IsEdwardsKey : (octets : List ℕ) → Key → Type 0
IsEdwardsKey octets key = (key ≡ Plain family.Ed octets) × (length octets ≡ 32)

-- the octets are the key, for this algorithm
abbrev pub IsKeyOf : Scheme → (octets : List ℕ) → Key → Type 0
IsKeyOf scheme.Rsa octets key = IsRsaKey octets key
IsKeyOf scheme.P256 octets key = IsPoint 32 octets key
IsKeyOf scheme.P384 octets key = IsPoint 48 octets key
IsKeyOf scheme.Ed25519 octets key = IsEdwardsKey octets key

-- the bytes are the SubjectPublicKeyInfo of the key
pub record IsInfoOf (bytes : List ℕ) (key : Key) : Type 0 where
  pub algorithm : Scheme
  pub octets : List ℕ
  pub bytes_are : bytes ≡ subject_public_key_info (identifier algorithm) octets
  pub is_key : IsKeyOf algorithm octets key

-- the bytes are the DER of the key
abbrev pub IsPublicKey : (bytes : List ℕ) → Key → Type 0
IsPublicKey bytes key = IsRsaKey bytes key ⊎ IsInfoOf bytes key

-- the bytes are a SubjectPublicKeyInfo of another algorithm
pub record NamesAnother (bytes : List ℕ) : Type 0 where
  pub algorithm : List ℕ
  pub octets : List ℕ
  pub bytes_are : bytes ≡ subject_public_key_info algorithm octets
  pub is_other : (s : Scheme) → algorithm ≢ identifier s

-- The bytes are a SEQUENCE that begins with the INTEGER 0 or 1, as each private key does with its version: PrivateKeyInfo (RFC
-- 5958 section 2, PKCS #8), RSAPrivateKey (RFC 8017 appendix A.1.2) and ECPrivateKey (RFC 5915 section 3).
pub record IsPrivateKey (bytes : List ℕ) : Type 0 where
  pub version : ℕ
  pub rest : List ℕ
  pub is_version : version ≤ 1
  pub bytes_are : bytes ≡ sequence (element 2 (version ∷ []) ++ rest)

-- the string of the refusal of a private key
abbrev pub private_key_text : List ℕ
private_key_text = codes "a private key is not read as a public key"

-- the bytes are the DER of no key, and this is the kind of the refusal
pub record IsRefused (bytes : List ℕ) (refusal : Kind) : Type 0 where
  pub none : (key : Key) → ¬ IsPublicKey bytes key
  pub why : ((refusal ≡ kind.Provider private_key_text) × IsPrivateKey bytes)
      ⊎ (((refusal ≡ kind.UnsupportedAlgorithm) × NamesAnother bytes)
      ⊎ ((refusal ≡ kind.InvalidKeyFormat) × ¬ IsPrivateKey bytes × ¬ NamesAnother bytes))

-- and here of bytes that are no RSAPublicKey
abbrev pub IsPrivateOrMalformed : (bytes : List ℕ) (refusal : Kind) → Type 0
IsPrivateOrMalformed bytes refusal =
    ((refusal ≡ kind.Provider private_key_text) × IsPrivateKey bytes)
    ⊎ ((refusal ≡ kind.InvalidKeyFormat) × ¬ IsPrivateKey bytes)
