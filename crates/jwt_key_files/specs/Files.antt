-- A public key of a file: in PEM, or in DER if the bytes are not PEM.
use Rattle.std.specs.Prelude.{◌⊎◌, ℕ, List, codes}
use Rattle.jwt_base.specs.Kind.{Kind}
use Rattle.jwt_keys.specs.Key.{Key}
use Rattle.jwt_keys.specs.declared.jwk.Jwk.{Jwk}
use Rattle.jwt_key_files.specs.JwksOfPem.{IsJwkOf}
use Rattle.jwt_key_files.specs.Pem.{IsFirst}
use Rattle.jwt_key_files.specs.PemKeys.{IsLabelled, IsPemOf, IsPemRefused}
use Rattle.jwt_key_files.specs.PublicKeys.{IsPublicKey, IsRefused}

-- the bytes are PEM: a line begins with `-----BEGIN `
abbrev pub IsPem : (bytes : List ℕ) → Type 0
IsPem bytes = (block : List ℕ) × IsFirst bytes block

-- the bytes are the file of the key
abbrev pub IsFileOf : (bytes : List ℕ) → Key → Type 0
IsFileOf bytes key = (IsPem bytes × IsPemOf bytes key) ⊎ ((¬ IsPem bytes) × IsPublicKey bytes key)

-- the bytes are the file of no key, and this is the kind of the refusal
abbrev pub IsFileRefused : (bytes : List ℕ) (refusal : Kind) → Type 0
IsFileRefused bytes refusal =
    (IsPem bytes × IsPemRefused bytes refusal) ⊎ ((¬ IsPem bytes) × IsRefused bytes refusal)

-- the JSON Web Key of the key of the file
abbrev pub IsJwkOfFile : (bytes : List ℕ) → Jwk → Type 0
IsJwkOfFile bytes jwk = (key : Key) × (IsFileOf bytes key × IsJwkOf key jwk)

-- the first block is labelled as a certificate (RFC 7468 section 5)
abbrev pub IsLabelledCertificate : (bytes : List ℕ) → Type 0
IsLabelledCertificate bytes =
    (block : List ℕ) × (IsFirst bytes block × IsLabelled (codes "CERTIFICATE") block)
