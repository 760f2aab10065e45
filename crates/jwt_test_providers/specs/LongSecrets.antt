-- The refusals of a provider that requires long secrets.
use Rattle.std.specs.Prelude.{◌≡◌, ℕ, length, nat_lt, Option, None, Some, if◌then◌else◌}
use Rattle.jwt_base.specs.Algorithm.{family_of}
use Rattle.jwt_base.specs.Kind.{Kind}
use Rattle.jwt_base.specs.Kind as kind
use Rattle.jwt_base.specs.declared.algorithms.Algorithm.{Algorithm}
use Rattle.jwt_base.specs.declared.algorithms.Algorithm.TheVariants.{HS256, HS384, HS512}
use Rattle.jwt_keys.specs.FamilyRefusal.{second_is_none}
use Rattle.jwt_keys.specs.Key.{Key, Plain, Components, SecretKey, key_family}
use Rattle.jwt_keys.specs.Provider.{first_refusal}
use Rattle.jwt_crypto.specs.law_proofs.HmacFamilies as hmac
use Rattle.jwt_crypto.specs.HmacKeys.{hmac_signer_refusal, hmac_verifier_refusal}

-- the least number of bytes of a secret: as many as the algorithm's codes have (RFC 7518 section
-- 3.2)
abbrev pub least_length : Algorithm → ℕ
least_length HS256 = 32
least_length HS384 = 48
least_length HS512 = 64
least_length _ = 0

-- `InvalidKeyFormat` for fewer bytes
abbrev pub length_refusal : Algorithm → ℕ → Option Kind
length_refusal a n = if nat_lt n (least_length a) then Some kind.InvalidKeyFormat else None

-- the bytes of a secret; components have none
abbrev pub secret_length : Key → ℕ
secret_length (Plain f b) = length b
secret_length (Components n e) = 0

-- a secret that is too short is refused first, and then the refusals of the provider of HMAC apply
abbrev pub signer_refusal_of : Algorithm → SecretKey → Option Kind
signer_refusal_of a k = first_refusal (length_refusal a (length k.bytes)) (hmac_signer_refusal a k)

abbrev pub verifier_refusal_of : Algorithm → Key → Option Kind
verifier_refusal_of a k =
    first_refusal (length_refusal a (secret_length k)) (hmac_verifier_refusal a k)

-- a verifier is made only for a key of the algorithm's family, since the provider of HMAC makes it
pub family_made : (a : Algorithm) (k : Key) → verifier_refusal_of a k ≡ None → key_family k ≡ family_of a
family_made a k h = hmac.family_made a (key_family k)
    (second_is_none (length_refusal a (secret_length k)) (hmac_verifier_refusal a k) h)
