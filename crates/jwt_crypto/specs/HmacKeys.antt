-- The keys, signatures and refusals of the provider of HMAC.
use Rattle.std.specs.Prelude.{◌≡◌, ℕ, List, Option, Some, None, Ok}
use Rattle.jwt_base.specs.Kind.{Kind}
use Rattle.jwt_base.specs.Kind as kind
use Rattle.jwt_base.specs.declared.algorithms.AlgorithmFamily.{AlgorithmFamily}
use Rattle.jwt_base.specs.declared.algorithms.AlgorithmFamily.TheVariants as family
use Rattle.jwt_base.specs.declared.algorithms.Algorithm.{Algorithm}
use Rattle.jwt_base.specs.declared.algorithms.Algorithm.TheVariants as algorithm
use Rattle.jwt_params.specs.declared.thumbprints.ThumbprintHash.{ThumbprintHash}
use Rattle.jwt_params.specs.declared.thumbprints.ThumbprintHash.TheVariants.{SHA256, SHA384, SHA512}
use Rattle.jwt_keys.specs.Key.{SecretKey, Key, Plain, Components, key_family}
use Rattle.jwt_keys.specs.Provider.{KeyAnswers, reads_no_key}
use Rattle.jwt_crypto.specs.declared.hmac.Hash.{Hash}
use Rattle.jwt_crypto.specs.declared.hmac.Hash.TheVariants.{Sha256, Sha384, Sha512}
use Rattle.jwt_crypto.specs.Hmac.{hash_bytes, hmac}

-- the hash of an algorithm of HMAC (RFC 7518 section 3.2)
abbrev pub hash_for : Algorithm → Option Hash
hash_for algorithm.HS256 = Some Sha256
hash_for algorithm.HS384 = Some Sha384
hash_for algorithm.HS512 = Some Sha512
hash_for _ = None

-- the algorithm of HMAC by this hash (RFC 7518 section 3.2)
abbrev pub algorithm_for : Hash → Algorithm
algorithm_for Sha256 = algorithm.HS256
algorithm_for Sha384 = algorithm.HS384
algorithm_for Sha512 = algorithm.HS512

-- the hash that a thumbprint names (RFC 7638 section 3.4)
abbrev pub hash_named : ThumbprintHash → Hash
hash_named SHA256 = Sha256
hash_named SHA384 = Sha384
hash_named SHA512 = Sha512

-- the kind with which a factory refuses, by the algorithm's hash and the key's family; the length
-- of a secret, which RFC 7518 section 3.2 restricts, does not matter
abbrev pub refusal : Option Hash → AlgorithmFamily → Option Kind
refusal None f = Some kind.UnsupportedAlgorithm
refusal (Some h) family.Hmac = None
refusal (Some h) family.Rsa = Some kind.InvalidKeyFormat
refusal (Some h) family.Ec = Some kind.InvalidKeyFormat
refusal (Some h) family.Ed = Some kind.InvalidKeyFormat

-- the kind with which no signer is made, and with which no verifier is (RFC 7518 section 3.2)
abbrev pub hmac_signer_refusal : Algorithm → SecretKey → Option Kind
hmac_signer_refusal a k = refusal (hash_for a) k.family

abbrev pub hmac_verifier_refusal : Algorithm → Key → Option Kind
hmac_verifier_refusal a k = refusal (hash_for a) (key_family k)

-- no keys in DER are read, and digests are those of SHA-2 (RFC 6234)
abbrev pub hmac_answers : KeyAnswers
hmac_answers = reads_no_key kind.UnsupportedAlgorithm (λ h bytes. Ok (hash_bytes (hash_named h) bytes))

-- the signature is the code of the message under the secret; without a hash there is none
-- (RFC 7518 section 3.2)
abbrev pub IsHmacOf : Option Hash → List ℕ → List ℕ → List ℕ → Type 0
IsHmacOf None secret message signature = ⊥
IsHmacOf (Some h) secret message signature = signature ≡ hmac h secret message

-- a secret signs a message with its code alone (RFC 7518 section 3.2)
abbrev pub HmacSigns : Algorithm → SecretKey → List ℕ → List ℕ → Type 0
HmacSigns a key message signature = IsHmacOf (hash_for a) key.bytes message signature

-- a secret accepts exactly the code of a message; components accept nothing (RFC 7518 section 3.2)
abbrev pub HmacAccepts : Algorithm → Key → List ℕ → List ℕ → Type 0
HmacAccepts a (Plain f secret) message signature = IsHmacOf (hash_for a) secret message signature
HmacAccepts a (Components n e) message signature = ⊥

-- The verification key of a secret accepts every signature by the signing key of the same
-- secret; and if a signer is made for the one, a verifier is made for the other.
pub record AcceptsItsOwn (a : Algorithm) : Type 0 where
  pub accepted : (key : SecretKey) (m s : List ℕ) → HmacSigns a key m s
      → HmacAccepts a (Plain family.Hmac key.bytes) m s
  pub made : (key : SecretKey) → refusal (hash_for a) key.family ≡ None
      → refusal (hash_for a) family.Hmac ≡ None
