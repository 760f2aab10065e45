-- The keys that a token is verified with, by the bytes of their file.
use Rattle.std.specs.Prelude.{◌≡◌, ◌⊎◌, ℕ, List, [], ◌∷◌, ◌++◌, Bool, false, Option, Some, None}
use Rattle.serde_json.specs.Data.{Data}
use Rattle.serde_json.specs.Written.{compact_text}
use Rattle.jwt_base.specs.JsonText.{ReadsText}
use Rattle.jwt_base.specs.Kind.{Kind}
use Rattle.jwt_base.specs.declared.algorithms.Algorithm.{Algorithm}
use Rattle.jwt_base.specs.declared.algorithms.AlgorithmFamily.TheVariants.{Hmac}
use Rattle.jsonwebtoken.specs.Own.{own_of}
use Rattle.jwt_key_files.specs.JwksOfPem.{IsJwkOfPem}
use Rattle.jwt_key_files.specs.PemKeys.{IsPemOf, IsPemRefused}
use Rattle.jwt_keys.specs.Jwk.{ReadsKey, key_value}
use Rattle.jwt_keys.specs.Key.{Key, Plain}
use Rattle.jwt_keys.specs.KeyOfJwk.{IsKeyOf}
use Rattle.jwt_keys.specs.declared.jwk.Jwk.{Jwk}
use Rattle.jwt_keys.specs.declared.jwk_set.JwkSet.{JwkSet}
use Rattle.jwt_secrets.specs.Blank.{IsBlank, IsBlankKey, IsBlankJwk}
use Rattle.jwt_key_items.specs.KeyItems.{ReadsItems, kept_of}
use Rattle.jwt_key_items.specs.declared.Item.{Item}
use Rattle.jwt_secrets.specs.KeyTexts.{IsKeyText}
use Rattle.jwt_command.specs.LineEnd.{IsSecret}
use Rattle.jwt_verifier.specs.declared.keys.Keys.{Keys}
use Rattle.jwt_verifier.specs.declared.keys.Keys.TheVariants.{One, Set}
use Rattle.jwt_requests.specs.declared.request.KeyFile.{KeyFile}
use Rattle.jwt_requests.specs.declared.request.KeyFile.TheVariants as file

-- The secret is taken: not every byte of it is 0 (RFC 2104 section 2), and it is not the text of a key of another kind
-- (RFC 8725 sections 2.1 and 3.1), unless that is allowed.
abbrev pub IsTaken : (allows_key : Bool) → (secret : List ℕ) → Type 0
IsTaken allows_key secret = (¬ IsBlank secret) × (allows_key ≡ false → ¬ IsKeyText secret)

abbrev pub IsNotTaken : (allows_key : Bool) → (secret : List ℕ) → Type 0
IsNotTaken allows_key secret = IsBlank secret ⊎ ((allows_key ≡ false) × IsKeyText secret)

-- the keys are the set of the kept items (RFC 7517 section 5)
abbrev pub IsKeptSet : List Item → Keys → Type 0
IsKeptSet items keys = (set : JwkSet) × (set.keys.items ≡ kept_of items) × (keys ≡ Set set)

-- the bytes of the file hold these keys, and the one key is for this algorithm: a secret, a JSON Web Key
-- (RFC 7517 section 4), the kept items of a set of these (RFC 7517 section 5), or a public key in PEM (RFC 7468 section 13);
-- the secret or the JSON Web Key is not empty and not all zeros (RFC 2104 section 2), and the secret is no text of a key
abbrev pub AreLoaded : KeyFile → List ℕ → Keys → Option Algorithm → Type 0
AreLoaded (file.Secret s) bytes keys own =
    (secret : List ℕ) × IsSecret s.is_trimmed bytes secret × IsTaken s.allows_key secret
    × (keys ≡ One (Plain Hmac secret)) × (own ≡ None)
AreLoaded (file.Jwk path) bytes keys own =
    (jwk : Jwk) × ReadsText ReadsKey bytes jwk
    × ((key : Key) × IsKeyOf jwk.algorithm key × (¬ IsBlankKey key)
    × (keys ≡ One key) × (own ≡ own_of jwk))
AreLoaded (file.Jwks path) bytes keys own =
    (items : List Item) × ReadsText ReadsItems bytes items × IsKeptSet items keys × (own ≡ None)
AreLoaded (file.Pem path) bytes keys own =
    (key : Key) × IsPemOf bytes key × (keys ≡ One key) × (own ≡ None)

-- the compact JSON text of the JSON Web Key (RFC 7517 section 4) of the key that the first block of a text holds (RFC 7468
-- section 3), and a newline
abbrev pub IsJwkLine : (bytes line : List ℕ) → Type 0
IsJwkLine bytes line =
    (jwk : Jwk) × IsJwkOfPem bytes jwk
    × ((value : Data) × (key_value jwk ≡ Some value) × (line ≡ compact_text value ++ 10 ∷ []))

-- why the bytes of the file hold no keys: anyone can sign with the secret, or for a key (RFC 2104 section 2); they are no
-- JSON Web Key, or one that verifies nothing (RFC 7517 section 4); they are no set, or no item of it is kept (RFC 7517
-- section 5); or no public key in PEM
abbrev pub HasKeysFault : KeyFile → List ℕ → Type 0
HasKeysFault (file.Secret s) bytes =
    (secret : List ℕ) × IsSecret s.is_trimmed bytes secret × IsNotTaken s.allows_key secret
HasKeysFault (file.Jwk path) bytes =
    ((jwk : Jwk) → ¬ ReadsText ReadsKey bytes jwk)
    ⊎ (((jwk : Jwk) × ReadsText ReadsKey bytes jwk × ((key : Key) → ¬ IsKeyOf jwk.algorithm key))
    ⊎ ((jwk : Jwk) × ReadsText ReadsKey bytes jwk × IsBlankJwk jwk))
HasKeysFault (file.Jwks path) bytes =
    ((items : List Item) → ¬ ReadsText ReadsItems bytes items)
    ⊎ ((items : List Item) × ReadsText ReadsItems bytes items × (kept_of items ≡ []))
HasKeysFault (file.Pem path) bytes = (k : Kind) × IsPemRefused bytes k
