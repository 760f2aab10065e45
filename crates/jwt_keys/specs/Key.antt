-- Keys as contracts see them: a family, with a list of bytes or with an RSA key's two numbers.
use Rattle.std.specs.Prelude.{◌≡◌, ℕ, List, ◌∷◌, ◌++◌, length, replicate}
use Rattle.jwt_base.specs.Base64Url.{IsPart}
use Rattle.jwt_base.specs.declared.algorithms.AlgorithmFamily.{AlgorithmFamily}
use Rattle.jwt_base.specs.declared.algorithms.AlgorithmFamily.TheVariants as family

-- a signing key
pub record SecretKey : Type 0 where
  pub family : AlgorithmFamily
  pub bytes : List ℕ

-- a verification key: a family and bytes, or the modulus and the exponent of an RSA key
pub data Key : Type 0 where
  Plain : AlgorithmFamily → List ℕ → Key
  Components : List ℕ → List ℕ → Key

-- the content of a verification key, without the family
pub data KeyContent : Type 0 where
  Bytes : List ℕ → KeyContent
  ModulusExponent : List ℕ → List ℕ → KeyContent

-- the family; of components RSA
abbrev pub key_family : Key → AlgorithmFamily
key_family (Plain f b) = f
key_family (Components n e) = family.Rsa

abbrev pub key_content : Key → KeyContent
key_content (Plain f b) = Bytes b
key_content (Components n e) = ModulusExponent n e

-- as many zero bytes
abbrev pub zeros : List ℕ → List ℕ
zeros bytes = replicate (length bytes) 0

-- every byte made 0
abbrev pub cleared_content : KeyContent → KeyContent
cleared_content (Bytes b) = Bytes (zeros b)
cleared_content (ModulusExponent n e) = ModulusExponent (zeros n) (zeros e)

abbrev pub cleared : Key → Key
cleared (Plain f b) = Plain f (zeros b)
cleared (Components n e) = Components (zeros n) (zeros e)

-- both texts are parts of the numbers' bytes (RFC 7518 section 6.3.1)
abbrev pub IsRsaOfParts : List ℕ → List ℕ → Key → Type 0
IsRsaOfParts modulus exponent key =
    (n : List ℕ) × ((e : List ℕ) × ((key ≡ Components n e) × IsPart modulus n × IsPart exponent e))

-- an uncompressed point: the byte 4 and the two coordinates, of which both texts are parts
-- (RFC 7518 section 6.2.1)
abbrev pub IsEcOfParts : List ℕ → List ℕ → Key → Type 0
IsEcOfParts x y key =
    (a : List ℕ) × ((b : List ℕ) × ((key ≡ Plain family.Ec (4 ∷ a ++ b)) × IsPart x a × IsPart y b))

-- the text is the part of the public key's bytes (RFC 8037 section 2)
abbrev pub IsEdOfPart : List ℕ → Key → Type 0
IsEdOfPart x key = (b : List ℕ) × ((key ≡ Plain family.Ed b) × IsPart x b)

-- the text is the part of the secret's bytes (RFC 7518 section 6.4.1)
abbrev pub IsHmacOfPart : List ℕ → Key → Type 0
IsHmacOfPart secret key = (b : List ℕ) × ((key ≡ Plain family.Hmac b) × IsPart secret b)
