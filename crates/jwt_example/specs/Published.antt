-- Public keys under their thumbprints.
use Rattle.std.specs.Prelude.{◌≡◌, ◌≢◌, ◌⊎◌, ℕ, List, [], ◌∷◌, ◌++◌, Some, Result, Ok, Err}
use Rattle.jwt_base.specs.Base64Url.{IsPart}
use Rattle.jwt_base.specs.Kind.{Kind}
use Rattle.jwt_base.specs.Kind as kind
use Rattle.jwt_base.specs.declared.algorithms.Algorithm.{Algorithm}
use Rattle.jwt_base.specs.declared.algorithms.AlgorithmFamily.TheVariants as family
use Rattle.jwt_keys.specs.JwkOfKey.{jwk_of_key}
use Rattle.jwt_keys.specs.Key.{Key, key_family}
use Rattle.jwt_keys.specs.Thumbprint.{digested, thumb_text}
use Rattle.jwt_keys.specs.declared.jwk.Jwk.{Jwk}
use Rattle.jwt_crypto.specs.Hmac.{hash_bytes}
use Rattle.jwt_rsa.specs.RsaAnswers.{rsa_answers}
use Rattle.jwt_crypto.specs.declared.hmac.Hash.TheVariants.{Sha256}

-- the SHA-256 digest of the key's required members, or the kind of the refusal (RFC 7638 section 3)
abbrev pub digest_of : Jwk → Result (List ℕ) Kind
digest_of jwk = digested (λ text. Ok (hash_bytes Sha256 text)) (thumb_text jwk)

-- the base64url text of that digest (RFC 7638 section 3)
abbrev pub IsThumbprintOf : List ℕ → Jwk → Type 0
IsThumbprintOf id jwk = (digest : List ℕ) × ((digest_of jwk ≡ Ok digest) × IsPart id digest)

-- the same under this id (RFC 7517 section 4.5)
abbrev pub under : List ℕ → Jwk → Jwk
under id jwk = record jwk { common = record jwk.common { key_id = Some id } }

-- the keys of a set, and one more: the JSON Web Key of a key that is not a secret, under its
-- thumbprint
pub record Publishes (a : Algorithm) (key : Key) (old new : List Jwk) : Type 0 where
  pub jwk : Jwk
  pub id : List ℕ
  pub is_public : key_family key ≢ family.Hmac
  pub is_of_key : jwk_of_key rsa_answers (Some a) key ≡ Ok jwk
  pub is_thumbprint : IsThumbprintOf id jwk
  pub added : new ≡ old ++ under id jwk ∷ []

-- the kind with which a key is refused: it is a secret, or it has no JSON Web Key, or that one has
-- no thumbprint
abbrev pub IsNotPublished : Algorithm → Key → Kind → Type 0
IsNotPublished a key k = ((key_family key ≡ family.Hmac) × (k ≡ kind.InvalidKeyFormat))
    ⊎ ((jwk_of_key rsa_answers (Some a) key ≡ Err k)
    ⊎ ((jwk : Jwk) × ((jwk_of_key rsa_answers (Some a) key ≡ Ok jwk) × (digest_of jwk ≡ Err k))))
