-- The secrets by which anyone can sign.
use Rattle.std.specs.Prelude.{◌≡◌, ℕ, List}
use Rattle.std.specs.List.{All, Any}
use Rattle.jwt_base.specs.declared.algorithms.AlgorithmFamily.TheVariants.{Hmac}
use Rattle.jwt_keys.specs.Key.{Key, Plain}
use Rattle.jwt_keys.specs.KeyOfJwk.{IsKeyOf}
use Rattle.jwt_keys.specs.declared.jwk.Jwk.{Jwk}

-- Every byte of the secret is 0, as in the empty one. HMAC fills a secret that is shorter than a block up with
-- zeros (RFC 2104 section 2), so all of these up to a block sign as the empty secret does.
abbrev pub IsBlank : List ℕ → Type 0
IsBlank secret = All (λ byte. byte ≡ 0) secret

-- the key is one for HMAC, with such a secret (RFC 7518 section 3.2)
abbrev pub IsBlankKey : Key → Type 0
IsBlankKey key = (secret : List ℕ) × (key ≡ Plain Hmac secret) × IsBlank secret

-- the key that the JSON Web Key stands for is such a key (RFC 7518 section 6.4.1)
abbrev pub IsBlankJwk : Jwk → Type 0
IsBlankJwk jwk = (key : Key) × IsKeyOf jwk.algorithm key × IsBlankKey key

-- some key of the set is such a key (RFC 7517 section 5.1)
abbrev pub HasBlankKey : List Jwk → Type 0
HasBlankKey keys = Any IsBlankJwk keys
