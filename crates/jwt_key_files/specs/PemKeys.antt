-- Public keys in the textual encoding: `PUBLIC KEY` (RFC 7468 section 13), and `RSA PUBLIC KEY`, which OpenSSL writes for an
-- RSAPublicKey.
use Rattle.std.specs.Prelude.{◌≡◌, ◌⊎◌, List, ℕ, ◌++◌, codes}
use Rattle.jwt_base.specs.Kind.{Kind}
use Rattle.jwt_base.specs.Kind as kind
use Rattle.jwt_keys.specs.Key.{Key}
use Rattle.jwt_key_files.specs.Pem.{IsBlock, IsFirst}
use Rattle.jwt_key_files.specs.PublicKeys.{IsRsaKey, IsInfoOf, NamesAnother, private_key_text}

-- the block holds these bytes, which its label says to be the key
abbrev pub IsBlockOf : (block der : List ℕ) → Key → Type 0
IsBlockOf block der key =
    (IsBlock (codes "PUBLIC KEY") block der × IsInfoOf der key) ⊎ (IsBlock (codes "RSA PUBLIC KEY") block der
    × IsRsaKey der key)

-- the first block of the text holds the key
pub record IsPemOf (text : List ℕ) (key : Key) : Type 0 where
  pub block : List ℕ
  pub der : List ℕ
  pub first : IsFirst text block
  pub is_key : IsBlockOf block der key

-- the labels of private keys (RFC 7468 sections 10 and 11, RFC 5915 section 4, and what OpenSSL writes for RSA)
abbrev pub IsPrivateLabel : (label : List ℕ) → Type 0
IsPrivateLabel label =
    (label ≡ codes "PRIVATE KEY")
    ⊎ ((label ≡ codes "ENCRYPTED PRIVATE KEY") ⊎ ((label ≡ codes "RSA PRIVATE KEY") ⊎ (label ≡ codes "EC PRIVATE KEY")))

-- the text after `-----BEGIN ` begins with this label and `-----`
pub record IsLabelled (label block : List ℕ) : Type 0 where
  pub rest : List ℕ
  pub named : block ≡ label ++ (codes "-----" ++ rest)

-- the block is labelled as a private key
pub record NamesPrivate (block : List ℕ) : Type 0 where
  pub label : List ℕ
  pub is_private : IsPrivateLabel label
  pub labelled : IsLabelled label block

-- the block holds a SubjectPublicKeyInfo of another algorithm
pub record HoldsAnother (block : List ℕ) : Type 0 where
  pub der : List ℕ
  pub holds : IsBlock (codes "PUBLIC KEY") block der
  pub another : NamesAnother der

-- the block holds no key, and this is the kind of the refusal
pub record IsBlockRefused (block : List ℕ) (refusal : Kind) : Type 0 where
  pub none : (der : List ℕ) (key : Key) → ¬ IsBlockOf block der key
  pub why : ((refusal ≡ kind.Provider private_key_text) × NamesPrivate block)
      ⊎ (((refusal ≡ kind.UnsupportedAlgorithm) × HoldsAnother block)
      ⊎ ((refusal ≡ kind.InvalidKeyFormat) × ¬ NamesPrivate block × ¬ HoldsAnother block))

-- no first block holds a key, and this is the kind of the refusal
abbrev pub IsPemRefused : (text : List ℕ) (refusal : Kind) → Type 0
IsPemRefused text refusal =
    ((block : List ℕ) × (IsFirst text block × IsBlockRefused block refusal))
    ⊎ ((refusal ≡ kind.InvalidKeyFormat) × ((block : List ℕ) → ¬ IsFirst text block))

-- the bytes are no SubjectPublicKeyInfo of a key, and this is the kind of the refusal
pub record IsInfoRefused (der : List ℕ) (refusal : Kind) : Type 0 where
  pub none : (key : Key) → ¬ IsInfoOf der key
  pub why : ((refusal ≡ kind.UnsupportedAlgorithm) × NamesAnother der)
      ⊎ ((refusal ≡ kind.InvalidKeyFormat) × ¬ NamesAnother der)
