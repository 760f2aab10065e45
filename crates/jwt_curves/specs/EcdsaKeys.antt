-- The keys, signatures and refusals of the provider of ECDSA.
use Rattle.std.specs.Prelude.{ℕ, List, Bool, Option, Some, None, if◌then◌else◌}
use Rattle.jwt_base.specs.Kind.{Kind}
use Rattle.jwt_base.specs.Kind as kind
use Rattle.jwt_base.specs.declared.algorithms.Algorithm.{Algorithm}
use Rattle.jwt_base.specs.declared.algorithms.Algorithm.TheVariants as algorithm
use Rattle.jwt_base.specs.declared.algorithms.AlgorithmFamily.TheVariants as family
use Rattle.jwt_keys.specs.Key.{Key, Plain, Components}
use Rattle.jwt_curves.specs.declared.curve.Curve.{Curve}
use Rattle.jwt_curves.specs.declared.curve.Curve.TheVariants.{P256, P384}
use Rattle.jwt_curves.specs.declared.elliptic.PublicKey.{PublicKey}
use Rattle.jwt_curves.specs.declared.elliptic.PublicKey.TheVariants as held
use Rattle.ecdsa.specs.Curves.{is_p256_key, IsEs256, is_p384_key, IsEs384}

-- the curve of an algorithm (RFC 7518 section 3.4)
abbrev pub curve_for : Algorithm → Option Curve
curve_for algorithm.ES256 = Some P256
curve_for algorithm.ES384 = Some P384
curve_for _ = None

-- whether the bytes are a public key on the curve
abbrev pub is_key_on : Curve → List ℕ → Bool
is_key_on P256 public = is_p256_key public
is_key_on P384 public = is_p384_key public

-- the signature is one by the curve and its hash: ES256 or ES384 (RFC 7518 section 3.4)
abbrev pub IsSignatureOn : Curve → (public message signature : List ℕ) → Type 0
IsSignatureOn P256 public message signature = IsEs256 public message signature
IsSignatureOn P384 public message signature = IsEs384 public message signature

-- the kind with which a key is refused: a key is the bytes of a point of the curve, in the family of
-- ECDSA (RFC 7518 section 6.2.1)
abbrev pub key_refusal : Curve → Key → Option Kind
key_refusal c (Plain family.Ec public) = if is_key_on c public then None else Some kind.InvalidKeyFormat
key_refusal c _ = Some kind.InvalidKeyFormat

-- the kind with which no verifier is made: for an algorithm without a curve, or for the key
abbrev pub refusal : Option Curve → Key → Option Kind
refusal None k = Some kind.UnsupportedAlgorithm
refusal (Some c) k = key_refusal c k

-- the signature is one by the curve, if there is one
abbrev pub IsEcdsaOf : Option Curve → (public message signature : List ℕ) → Type 0
IsEcdsaOf None public message signature = ⊥
IsEcdsaOf (Some c) public message signature = IsSignatureOn c public message signature

-- the bytes of a key accept the signatures by the algorithm's curve, and components accept nothing
abbrev pub EcdsaAccepts : Algorithm → Key → List ℕ → List ℕ → Type 0
EcdsaAccepts a (Plain f public) message signature = IsEcdsaOf (curve_for a) public message signature
EcdsaAccepts a (Components n e) message signature = ⊥

-- the curve of the key that a verifier holds
abbrev pub curve_of : PublicKey → Curve
curve_of (held.P256 public) = P256
curve_of (held.P384 public) = P384

-- the bytes of that key
abbrev pub bytes_of : PublicKey → List ℕ
bytes_of (held.P256 public) = public
bytes_of (held.P384 public) = public

-- the ECDSA algorithm of a curve (RFC 7518 section 3.4)
abbrev pub algorithm_for : Curve → Algorithm
algorithm_for P256 = algorithm.ES256
algorithm_for P384 = algorithm.ES384
