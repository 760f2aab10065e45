-- The keys, signatures and refusals of the provider of all twelve algorithms: for each algorithm those of
-- the provider of its family.
use Rattle.std.specs.Prelude.{ℕ, List, Option}
use Rattle.jwt_base.specs.Algorithm.{family_of}
use Rattle.jwt_base.specs.Kind.{Kind}
use Rattle.jwt_base.specs.declared.algorithms.Algorithm.{Algorithm}
use Rattle.jwt_base.specs.declared.algorithms.AlgorithmFamily.{AlgorithmFamily}
use Rattle.jwt_base.specs.declared.algorithms.AlgorithmFamily.TheVariants as family
use Rattle.jwt_keys.specs.Key.{Key}
use Rattle.jwt_crypto.specs.HmacKeys as hmac
use Rattle.jwt_rsa.specs.RsaKeys as rsa
use Rattle.jwt_rsa.specs.RsaSchemes.{scheme_for}
use Rattle.jwt_curves.specs.EcdsaKeys as ecdsa
use Rattle.jwt_curves.specs.EdDsaKeys as eddsa

-- the kind with which the provider of a family makes no verifier
abbrev pub refusal_by : AlgorithmFamily → Algorithm → Key → Option Kind
refusal_by family.Hmac a k = hmac.hmac_verifier_refusal a k
refusal_by family.Rsa a k = rsa.refusal (scheme_for a) k
refusal_by family.Ec a k = ecdsa.refusal (ecdsa.curve_for a) k
refusal_by family.Ed a k = eddsa.refusal a k

-- the kind with which no verifier is made
abbrev pub verifier_refusal : Algorithm → Key → Option Kind
verifier_refusal a k = refusal_by (family_of a) a k

-- the provider of a family accepts the signature
abbrev pub AcceptsBy : AlgorithmFamily → Algorithm → Key → (message signature : List ℕ) → Type 0
AcceptsBy family.Hmac a k message signature = hmac.HmacAccepts a k message signature
AcceptsBy family.Rsa a k message signature = rsa.RsaAccepts a k message signature
AcceptsBy family.Ec a k message signature = ecdsa.EcdsaAccepts a k message signature
AcceptsBy family.Ed a k message signature = eddsa.EdDsaAccepts a k message signature

-- a key accepts a signature of a message by an algorithm
abbrev pub StandardAccepts : Algorithm → Key → (message signature : List ℕ) → Type 0
StandardAccepts a k message signature = AcceptsBy (family_of a) a k message signature
