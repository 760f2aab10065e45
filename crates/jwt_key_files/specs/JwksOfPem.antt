-- The JSON Web Key of a public key in the textual encoding (RFC 7517 section 4, RFC 7518 section 6, RFC 8037 section 2).
use Rattle.std.specs.Prelude.{◌≡◌, ◌≢◌, ℕ, List, None, Ok}
use Rattle.jwt_keys.specs.Key.{Key}
use Rattle.jwt_keys.specs.Jwk.{key_value}
use Rattle.jwt_keys.specs.JwkOfKey.{jwk_of_key}
use Rattle.jwt_keys.specs.Provider.{KeyAnswers}
use Rattle.jwt_keys.specs.declared.jwk.Jwk.{Jwk}
use Rattle.jwt_key_files.specs.PublicKeys.{IsKeyOf}
use Rattle.jwt_key_files.specs.Certificates.{IsCertificatePemOf}
use Rattle.jwt_key_files.specs.PemKeys.{IsPemOf}
use Rattle.jwt_key_files.specs.declared.scheme.Scheme.{Scheme}

-- some octets are the key, for some algorithm
abbrev pub IsRead : Key → Type 0
IsRead key = (algorithm : Scheme) × ((octets : List ℕ) × IsKeyOf algorithm octets key)

-- the JSON Web Key of the key without `alg`, whatever a provider reads of other keys
abbrev pub IsJwkOf : Key → Jwk → Type 0
IsJwkOf key jwk = (provider : KeyAnswers) → jwk_of_key provider None key ≡ Ok jwk

-- the JSON Web Key of the key that the first block of the text holds
abbrev pub IsJwkOfPem : (text : List ℕ) → Jwk → Type 0
IsJwkOfPem text jwk = (key : Key) × (IsPemOf text key × IsJwkOf key jwk)

-- the JSON Web Key of the key of the certificate that the first block of the text holds
abbrev pub IsJwkOfCertificatePem : (text : List ℕ) → Jwk → Type 0
IsJwkOfCertificatePem text jwk = (key : Key) × (IsCertificatePemOf text key × IsJwkOf key jwk)

-- the key can be written
abbrev pub IsWritable : Jwk → Type 0
IsWritable jwk = key_value jwk ≢ None
