-- A verifier is made only for a key of the family of the algorithm.
use Rattle.std.proofs.Common.{◌≡◌, None}
use Rattle.jwt_base.specs.Algorithm.{family_of}
use Rattle.jwt_base.specs.declared.algorithms.Algorithm.{Algorithm}
use Rattle.jwt_base.specs.declared.algorithms.AlgorithmFamily.{AlgorithmFamily}
use Rattle.jwt_base.specs.declared.algorithms.AlgorithmFamily.TheVariants as family
use Rattle.jwt_keys.specs.Key.{Key, key_family}
use Rattle.jwt_crypto.specs.law_proofs.HmacFamilies as hmac
use Rattle.jwt_rsa.specs.law_proofs.RsaFamilies as rsa
use Rattle.jwt_curves.specs.law_proofs.CurveFamilies.{eddsa_made, ecdsa_made}
use Rattle.jwt_standard.specs.StandardKeys.{refusal_by, verifier_refusal}

made_by : (f : AlgorithmFamily) (a : Algorithm) (k : Key) → refusal_by f a k ≡ None
    → key_family k ≡ family_of a
made_by family.Hmac a k h = hmac.family_made a (key_family k) h
made_by family.Rsa a k h = rsa.family_made a k h
made_by family.Ec a k h = ecdsa_made a k h
made_by family.Ed a k h = eddsa_made a k h

pub family_made : (a : Algorithm) (k : Key) → verifier_refusal a k ≡ None → key_family k ≡ family_of a
family_made a k h = made_by (family_of a) a k h
