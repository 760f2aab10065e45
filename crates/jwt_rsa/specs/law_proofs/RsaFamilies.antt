-- A verifier of RSA is made only for a key of the family of the algorithm.
use Rattle.std.proofs.Common.{◌≡◌, refl, None, ℕ, List}
use Rattle.jwt_base.specs.declared.algorithms.AlgorithmFamily.{AlgorithmFamily}
use Rattle.jwt_base.specs.declared.algorithms.AlgorithmFamily.TheVariants as family
use Rattle.jwt_base.specs.declared.algorithms.Algorithm.{Algorithm}
use Rattle.jwt_base.specs.declared.algorithms.Algorithm.TheVariants as algorithm
use Rattle.jwt_base.specs.Algorithm.{family_of}
use Rattle.jwt_keys.specs.Key.{Key, Plain, Components, key_family}
use Rattle.jwt_rsa.specs.RsaSchemes.{scheme_for}
use Rattle.jwt_rsa.specs.RsaKeys.{refusal}

algorithm_made : (a : Algorithm) (k : Key) → refusal (scheme_for a) k ≡ None → family.Rsa ≡ family_of a
algorithm_made algorithm.HS256 k h = cc
algorithm_made algorithm.HS384 k h = cc
algorithm_made algorithm.HS512 k h = cc
algorithm_made algorithm.RS256 k h = refl
algorithm_made algorithm.RS384 k h = refl
algorithm_made algorithm.RS512 k h = refl
algorithm_made algorithm.PS256 k h = refl
algorithm_made algorithm.PS384 k h = refl
algorithm_made algorithm.PS512 k h = refl
algorithm_made algorithm.ES256 k h = cc
algorithm_made algorithm.ES384 k h = cc
algorithm_made algorithm.EdDSA k h = cc

plain_refused : (a : Algorithm) (f : AlgorithmFamily) (b : List ℕ) → refusal (scheme_for a) (Plain f b) ≡ None → ⊥
plain_refused algorithm.RS256 f b h = cc
plain_refused algorithm.RS384 f b h = cc
plain_refused algorithm.RS512 f b h = cc
plain_refused algorithm.HS256 f b h = cc
plain_refused algorithm.HS384 f b h = cc
plain_refused algorithm.HS512 f b h = cc
plain_refused algorithm.PS256 f b h = cc
plain_refused algorithm.PS384 f b h = cc
plain_refused algorithm.PS512 f b h = cc
plain_refused algorithm.ES256 f b h = cc
plain_refused algorithm.ES384 f b h = cc
plain_refused algorithm.EdDSA f b h = cc

pub family_made : (a : Algorithm) (k : Key) → refusal (scheme_for a) k ≡ None → key_family k ≡ family_of a
family_made a (Plain f b) h = absurd (plain_refused a f b h)
family_made a (Components n e) h = algorithm_made a (Components n e) h
