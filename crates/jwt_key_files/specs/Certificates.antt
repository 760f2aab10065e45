-- The public key of an X.509 certificate (RFC 5280 section 4.1). Nothing but the key is looked into.
use Rattle.std.specs.Prelude.{◌≡◌, ◌⊎◌, ℕ, List, [], ◌∷◌, ◌++◌, codes}
use Rattle.jwt_base.specs.Kind.{Kind}
use Rattle.jwt_base.specs.Kind as kind
use Rattle.jwt_keys.specs.Key.{Key}
use Rattle.jwt_key_files.specs.Der.{element, sequence}
use Rattle.jwt_key_files.specs.Pem.{IsBlock, IsFirst}
use Rattle.jwt_key_files.specs.PemKeys.{IsInfoRefused}
use Rattle.jwt_key_files.specs.PublicKeys.{IsInfoOf}

-- the bytes are elements of these tags, one after the other, and then the rest
abbrev pub IsAfter : (tags bytes rest : List ℕ) → Type 0
IsAfter [] bytes rest = bytes ≡ rest
IsAfter (tag ∷ tags) bytes rest =
    (content : List ℕ) × ((more : List ℕ) × ((bytes ≡ element tag content ++ more) × IsAfter tags more rest))

-- the fields before the key: the serial number (an INTEGER), then the algorithm of the signature, the issuer, the validity and
-- the subject (SEQUENCEs)
abbrev pub serial_to_subject : List ℕ
serial_to_subject = 2 ∷ 0x30 ∷ 0x30 ∷ 0x30 ∷ 0x30 ∷ []

-- The content of a TBSCertificate, with this SubjectPublicKeyInfo: the version, which may be absent, the fields before the key,
-- the key, and the rest.
pub record IsToBeSigned (content info : List ℕ) : Type 0 where
  pub key : List ℕ
  pub rest : List ℕ
  pub is_element : info ≡ element 0x30 key
  pub fields : IsAfter (0xa0 ∷ serial_to_subject) content (info ++ rest) ⊎ IsAfter serial_to_subject content (info ++ rest)

-- a Certificate: the TBSCertificate, the AlgorithmIdentifier (a SEQUENCE) and the signature (a BIT STRING)
pub record IsCertificate (bytes info : List ℕ) : Type 0 where
  pub content : List ℕ
  pub signed : List ℕ
  pub bytes_are : bytes ≡ sequence (sequence content ++ signed)
  pub signature : IsAfter (0x30 ∷ 3 ∷ []) signed []
  pub holds : IsToBeSigned content info

-- the bytes are a certificate of the key
abbrev pub IsCertificateOf : (bytes : List ℕ) → Key → Type 0
IsCertificateOf bytes key = (info : List ℕ) × (IsCertificate bytes info × IsInfoOf info key)

-- the bytes are no certificate of a key, and this is the kind of the refusal
abbrev pub IsCertificateRefused : (bytes : List ℕ) (refusal : Kind) → Type 0
IsCertificateRefused bytes refusal =
    ((info : List ℕ) × (IsCertificate bytes info × IsInfoRefused info refusal))
    ⊎ ((refusal ≡ kind.InvalidKeyFormat) × ((info : List ℕ) → ¬ IsCertificate bytes info))

-- the first block of the text holds these bytes, with the label of a certificate (RFC 7468 section 5)
abbrev pub HoldsCertificate : (text der : List ℕ) → Type 0
HoldsCertificate text der = (block : List ℕ) × (IsFirst text block × IsBlock (codes "CERTIFICATE") block der)

-- the first block of the text holds a certificate of the key
abbrev pub IsCertificatePemOf : (text : List ℕ) → Key → Type 0
IsCertificatePemOf text key = (der : List ℕ) × (HoldsCertificate text der × IsCertificateOf der key)

-- the first block of the text holds none, and this is the kind of the refusal
abbrev pub IsCertificatePemRefused : (text : List ℕ) (refusal : Kind) → Type 0
IsCertificatePemRefused text refusal =
    ((der : List ℕ) × (HoldsCertificate text der × IsCertificateRefused der refusal))
    ⊎ ((refusal ≡ kind.InvalidKeyFormat) × ((der : List ℕ) → ¬ HoldsCertificate text der))
