-- A verifier on a curve is made only for a key of the family of the algorithm.
use Rattle.std.proofs.Common.{◌≡◌, refl, None}
use Rattle.jwt_base.specs.declared.algorithms.AlgorithmFamily.TheVariants as family
use Rattle.jwt_base.specs.declared.algorithms.Algorithm.{Algorithm}
use Rattle.jwt_base.specs.declared.algorithms.Algorithm.TheVariants as algorithm
use Rattle.jwt_base.specs.Algorithm.{family_of}
use Rattle.jwt_keys.specs.Key.{Key, Plain, Components, key_family}
use Rattle.jwt_curves.specs.declared.curve.Curve.{Curve}
use Rattle.jwt_curves.specs.declared.curve.Curve.TheVariants.{P256, P384}
use Rattle.jwt_curves.specs.EdDsaKeys as eddsa
use Rattle.jwt_curves.specs.EcdsaKeys as ecdsa

eddsa_key : (k : Key) → eddsa.key_refusal k ≡ None → key_family k ≡ family.Ed
eddsa_key (Plain family.Ed b) h = refl
eddsa_key (Plain family.Ec b) h = cc
eddsa_key (Plain family.Rsa b) h = cc
eddsa_key (Plain family.Hmac b) h = cc
eddsa_key (Components n e) h = cc

-- with EdDSA
pub eddsa_made : (a : Algorithm) (k : Key) → eddsa.refusal a k ≡ None → key_family k ≡ family_of a
eddsa_made algorithm.EdDSA k h = eddsa_key k h
eddsa_made algorithm.HS256 k h = cc
eddsa_made algorithm.HS384 k h = cc
eddsa_made algorithm.HS512 k h = cc
eddsa_made algorithm.RS256 k h = cc
eddsa_made algorithm.RS384 k h = cc
eddsa_made algorithm.RS512 k h = cc
eddsa_made algorithm.PS256 k h = cc
eddsa_made algorithm.PS384 k h = cc
eddsa_made algorithm.PS512 k h = cc
eddsa_made algorithm.ES256 k h = cc
eddsa_made algorithm.ES384 k h = cc

ecdsa_key : (c : Curve) (k : Key) → ecdsa.key_refusal c k ≡ None → key_family k ≡ family.Ec
ecdsa_key c (Plain family.Ec b) h = refl
ecdsa_key c (Plain family.Ed b) h = cc
ecdsa_key c (Plain family.Rsa b) h = cc
ecdsa_key c (Plain family.Hmac b) h = cc
ecdsa_key c (Components n e) h = cc

-- with ECDSA
pub ecdsa_made : (a : Algorithm) (k : Key) → ecdsa.refusal (ecdsa.curve_for a) k ≡ None
    → key_family k ≡ family_of a
ecdsa_made algorithm.ES256 k h = ecdsa_key P256 k h
ecdsa_made algorithm.ES384 k h = ecdsa_key P384 k h
ecdsa_made algorithm.HS256 k h = cc
ecdsa_made algorithm.HS384 k h = cc
ecdsa_made algorithm.HS512 k h = cc
ecdsa_made algorithm.RS256 k h = cc
ecdsa_made algorithm.RS384 k h = cc
ecdsa_made algorithm.RS512 k h = cc
ecdsa_made algorithm.PS256 k h = cc
ecdsa_made algorithm.PS384 k h = cc
ecdsa_made algorithm.PS512 k h = cc
ecdsa_made algorithm.EdDSA k h = cc
