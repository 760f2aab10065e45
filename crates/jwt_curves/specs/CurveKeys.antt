-- The keys, signatures and refusals of the providers of ECDSA and of EdDSA, for each algorithm those of the
-- provider of its family.
use Rattle.std.specs.Prelude.{ℕ, List, Bool, false, Option, Some, ◌||◌}
use Rattle.jwt_base.specs.Algorithm.{family_of}
use Rattle.jwt_base.specs.Kind.{Kind}
use Rattle.jwt_base.specs.Kind as kind
use Rattle.jwt_base.specs.declared.algorithms.Algorithm.{Algorithm}
use Rattle.jwt_base.specs.declared.algorithms.AlgorithmFamily.{AlgorithmFamily}
use Rattle.jwt_base.specs.declared.algorithms.AlgorithmFamily.TheVariants as family
use Rattle.jwt_keys.specs.Key.{Key, Plain}
use Rattle.ecdsa.specs.Curves.{is_p256_key, is_p384_key}
use Rattle.ed25519.specs.Ed25519.{is_public_key}
use Rattle.jwt_curves.specs.EcdsaKeys as ecdsa
use Rattle.jwt_curves.specs.EdDsaKeys as eddsa

-- whether the bytes are a public key on a curve of the family: P-256 or P-384, or Ed25519
abbrev pub is_curve_key : Key → Bool
is_curve_key (Plain family.Ec public) = is_p256_key public || is_p384_key public
is_curve_key (Plain family.Ed public) = is_public_key public
is_curve_key _ = false

-- the kind with which the provider of a family makes no verifier
abbrev pub refusal_by : AlgorithmFamily → Algorithm → Key → Option Kind
refusal_by family.Ec a k = ecdsa.refusal (ecdsa.curve_for a) k
refusal_by family.Ed a k = eddsa.refusal a k
refusal_by _ a k = Some kind.UnsupportedAlgorithm

-- the kind with which no verifier is made
abbrev pub refusal : Algorithm → Key → Option Kind
refusal a k = refusal_by (family_of a) a k

-- the provider of a family accepts the signature
abbrev pub AcceptsBy : AlgorithmFamily → Algorithm → Key → (message signature : List ℕ) → Type 0
AcceptsBy family.Ec a k message signature = ecdsa.EcdsaAccepts a k message signature
AcceptsBy family.Ed a k message signature = eddsa.EdDsaAccepts a k message signature
AcceptsBy _ a k message signature = ⊥

-- a key accepts a signature of a message by an algorithm
abbrev pub CurveAccepts : Algorithm → Key → (message signature : List ℕ) → Type 0
CurveAccepts a k message signature = AcceptsBy (family_of a) a k message signature
