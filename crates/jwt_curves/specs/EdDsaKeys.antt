-- The keys, signatures and refusals of the provider of EdDSA.
use Rattle.std.specs.Prelude.{ℕ, List, Option, Some, None, if◌then◌else◌}
use Rattle.jwt_base.specs.Kind.{Kind}
use Rattle.jwt_base.specs.Kind as kind
use Rattle.jwt_base.specs.declared.algorithms.Algorithm.{Algorithm}
use Rattle.jwt_base.specs.declared.algorithms.Algorithm.TheVariants as algorithm
use Rattle.jwt_base.specs.declared.algorithms.AlgorithmFamily.TheVariants as family
use Rattle.jwt_keys.specs.Key.{Key, Plain}
use Rattle.ed25519.specs.Ed25519.{is_public_key, IsSignature}

-- the kind with which a key is refused: a key is the 32 bytes of a point of Ed25519, in the family of
-- EdDSA (RFC 8037 section 2)
abbrev pub key_refusal : Key → Option Kind
key_refusal (Plain family.Ed public) = if is_public_key public then None else Some kind.InvalidKeyFormat
key_refusal _ = Some kind.InvalidKeyFormat

-- the kind with which no verifier is made: for an algorithm that is not EdDSA, or for the key
abbrev pub refusal : Algorithm → Key → Option Kind
refusal algorithm.EdDSA k = key_refusal k
refusal _ k = Some kind.UnsupportedAlgorithm

-- with EdDSA the bytes of a key accept the signatures of Ed25519, and nothing else is accepted (RFC 8037
-- section 3.1)
abbrev pub EdDsaAccepts : Algorithm → Key → List ℕ → List ℕ → Type 0
EdDsaAccepts algorithm.EdDSA (Plain f public) message signature = IsSignature public message signature
EdDsaAccepts _ _ message signature = ⊥
