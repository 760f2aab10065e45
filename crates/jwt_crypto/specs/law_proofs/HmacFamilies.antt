-- A verifier of HMAC is made only for a key of the algorithm's family.
use Rattle.std.proofs.Common.{◌≡◌, ◌∙◌, sym, refl, Option, None, Some}
use Rattle.jwt_base.specs.declared.algorithms.AlgorithmFamily.{AlgorithmFamily}
use Rattle.jwt_base.specs.declared.algorithms.AlgorithmFamily.TheVariants as family
use Rattle.jwt_base.specs.declared.algorithms.Algorithm.{Algorithm}
use Rattle.jwt_base.specs.declared.algorithms.Algorithm.TheVariants as algorithm
use Rattle.jwt_base.specs.Algorithm.{family_of}
use Rattle.jwt_crypto.specs.declared.hmac.Hash.{Hash}
use Rattle.jwt_crypto.specs.HmacKeys.{hash_for, refusal}

-- the key is of the family of HMAC
key_made : (o : Option Hash) (f : AlgorithmFamily) → refusal o f ≡ None → f ≡ family.Hmac
key_made None f h = cc
key_made (Some x) family.Hmac h = refl
key_made (Some x) family.Rsa h = cc
key_made (Some x) family.Ec h = cc
key_made (Some x) family.Ed h = cc

-- and so is the algorithm
algorithm_made : (a : Algorithm) (f : AlgorithmFamily) → refusal (hash_for a) f ≡ None
    → family_of a ≡ family.Hmac
algorithm_made algorithm.HS256 f h = refl
algorithm_made algorithm.HS384 f h = refl
algorithm_made algorithm.HS512 f h = refl
algorithm_made algorithm.RS256 f h = cc
algorithm_made algorithm.RS384 f h = cc
algorithm_made algorithm.RS512 f h = cc
algorithm_made algorithm.PS256 f h = cc
algorithm_made algorithm.PS384 f h = cc
algorithm_made algorithm.PS512 f h = cc
algorithm_made algorithm.ES256 f h = cc
algorithm_made algorithm.ES384 f h = cc
algorithm_made algorithm.EdDSA f h = cc

pub family_made : (a : Algorithm) (f : AlgorithmFamily) → refusal (hash_for a) f ≡ None
    → f ≡ family_of a
family_made a f h = key_made (hash_for a) f h ∙ sym (algorithm_made a f h)
