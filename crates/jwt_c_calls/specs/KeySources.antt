-- What bytes are as keys: a set, or one key; or why they are neither.
use Rattle.std.specs.Prelude.{◌≡◌, ◌⊎◌, ℕ, List, [], ◌∷◌, ◌==◌, Option, Some, None, true, false, IsTrue}
use Rattle.std.specs.Prelude.{if◌then◌else◌}
use Rattle.serde_json.specs.Data.{Data}
use Rattle.jwt_base.specs.JsonText.{IsJson, ReadsText}
use Rattle.jwt_base.specs.Kind.{Kind}
use Rattle.jwt_base.specs.Kind as kind
use Rattle.jwt_base.specs.declared.algorithms.AlgorithmFamily.TheVariants.{Hmac}
use Rattle.jwt_keys.specs.Jwk.{ReadsKey}
use Rattle.jwt_keys.specs.JwkOfKey.{StandsFor}
use Rattle.jwt_keys.specs.Key.{Plain}
use Rattle.jwt_keys.specs.declared.jwk.Jwk.{Jwk}
use Rattle.jwt_key_files.specs.Certificates.{IsCertificatePemRefused}
use Rattle.jwt_key_files.specs.Files.{IsFileRefused, IsJwkOfFile, IsLabelledCertificate}
use Rattle.jwt_key_files.specs.JwksOfPem.{IsJwkOf, IsJwkOfCertificatePem}
use Rattle.jwt_key_items.specs.KeyItems.{IsUsage, ReadsItems, is_kept}
use Rattle.jwt_key_items.specs.declared.Item.{Item}
use Rattle.jwt_key_items.specs.declared.Reason.{Reason}
use Rattle.jwt_key_items.specs.declared.Usage.{Usage}
use Rattle.jwt_key_items.specs.declared.Usage.TheVariants.{Skipped}
use Rattle.jwt_c_calls.specs.KeyInfos.{reason_status}
use Rattle.jwt_c_calls.specs.KeyLists.{KeyList}
use Rattle.jwt_c_calls.specs.Status.{number, input_status, is_certificate}
use Rattle.jwt_c_calls.specs.declared.inputs.Input.TheVariants as input
use Rattle.jwt_c_calls.specs.declared.key_sources.Source.{Source}
use Rattle.jwt_c_calls.specs.declared.key_sources.Source.TheVariants.{Text, Secret, Certificate, Set}

-- the source of a number
abbrev pub source_numbered : ℕ → Option Source
source_numbered n = if n == 1 then Some Text
    else (if n == 2 then Some Secret
    else (if n == 3 then Some Certificate
    else (if n == 4 then Some Set
    else None)))

-- ---- one key

-- the bytes are JSON (RFC 8259)
abbrev pub IsJsonText : List ℕ → Type 0
IsJsonText bytes = (d : Data) × IsJson bytes d

-- the JSON value is not a set
abbrev pub IsNoSet : Data → Type 0
IsNoSet d = (items : List Item) → ¬ ReadsItems d items

-- a text is one key: JSON of a key that is not a set (RFC 7517 section 4), or else the file of a public key
abbrev pub IsTextOfKey : List ℕ → Jwk → Type 0
IsTextOfKey bytes jwk = ((d : Data) × IsJson bytes d × IsNoSet d × ReadsKey d jwk)
    ⊎ ((¬ IsJsonText bytes) × IsJwkOfFile bytes jwk)

-- the JSON Web Key of a secret, and of no other key (RFC 7518 section 6.4)
abbrev pub IsJwkOfSecret : List ℕ → Jwk → Type 0
IsJwkOfSecret secret jwk = IsJwkOf (Plain Hmac secret) jwk × StandsFor jwk.algorithm (Plain Hmac secret)

abbrev pub IsOneKey : Source → List ℕ → Jwk → Type 0
IsOneKey Text bytes jwk = IsTextOfKey bytes jwk
IsOneKey Secret bytes jwk = IsJwkOfSecret bytes jwk
IsOneKey Certificate bytes jwk = IsJwkOfCertificatePem bytes jwk
IsOneKey Set bytes jwk = ⊥

-- ---- keys that are read

-- the text of a set: each item is kept, or skipped for a reason (RFC 7517 section 5)
abbrev pub IsTextOfSet : List ℕ → KeyList → Type 0
IsTextOfSet bytes keys = (keys.is_set ≡ true) × ReadsText ReadsItems bytes keys.items

abbrev pub AreOfSet : Source → List ℕ → KeyList → Type 0
AreOfSet Text bytes keys = IsTextOfSet bytes keys
AreOfSet Secret bytes keys = ⊥
AreOfSet Certificate bytes keys = ⊥
AreOfSet Set bytes keys = IsTextOfSet bytes keys

-- this key alone
abbrev pub of_one : Jwk → Usage → KeyList
of_one jwk usage = record { items = record { key = Some jwk; usage = usage } ∷ []; is_set = false }

-- and it is kept
abbrev pub IsAlone : Jwk → KeyList → Type 0
IsAlone jwk keys = (usage : Usage) × IsUsage jwk usage × IsTrue (is_kept usage) × (keys ≡ of_one jwk usage)

-- one of these keys alone
abbrev pub IsOneOf : (Jwk → Type 0) → KeyList → Type 0
IsOneOf Is keys = (jwk : Jwk) × Is jwk × IsAlone jwk keys

-- the keys that the bytes are
abbrev pub AreKeysOf : Source → List ℕ → KeyList → Type 0
AreKeysOf source bytes keys = AreOfSet source bytes keys ⊎ IsOneOf (IsOneKey source bytes) keys

-- ---- bytes that are refused

-- the status of bytes that are not the file of a key
abbrev pub file_status : Kind → ℕ
file_status kind.InvalidKeyFormat = input_status input.Key
file_status k = number k

-- a text is neither a set nor a key
abbrev pub IsNoText : List ℕ → ℕ → Type 0
IsNoText bytes status =
    ((d : Data) × IsJson bytes d × IsNoSet d × ((jwk : Jwk) → ¬ ReadsKey d jwk) × (status ≡ input_status input.Key))
    ⊎ (((¬ IsJsonText bytes) × IsLabelledCertificate bytes × (status ≡ is_certificate))
    ⊎ ((¬ IsJsonText bytes) × (¬ IsLabelledCertificate bytes)
    × ((k : Kind) × IsFileRefused bytes k × (status ≡ file_status k))))

abbrev pub AreNoKeys : Source → List ℕ → ℕ → Type 0
AreNoKeys Text bytes status = IsNoText bytes status
AreNoKeys Secret bytes status = ⊥
AreNoKeys Certificate bytes status =
    (k : Kind) × IsCertificatePemRefused bytes k × (status ≡ file_status k)
AreNoKeys Set bytes status =
    ((items : List Item) → ¬ ReadsText ReadsItems bytes items) × (status ≡ input_status input.Key)

-- one key is skipped for this reason
abbrev pub IsSkippedAs : Jwk → ℕ → Type 0
IsSkippedAs jwk status = (why : Reason) × IsUsage jwk (Skipped why) × (status ≡ reason_status why)

-- memory ran out; or there is no key, with this status; or there is one of these keys, which is skipped
abbrev pub IsNotRead : (Jwk → Type 0) → (ℕ → Type 0) → ℕ → Type 0
IsNotRead Is IsNone status = (status ≡ number kind.OutOfMemory)
    ⊎ (IsNone status ⊎ ((jwk : Jwk) × Is jwk × IsSkippedAs jwk status))

-- why the bytes are no keys that are added
abbrev pub AreRefused : Source → List ℕ → ℕ → Type 0
AreRefused source bytes = IsNotRead (IsOneKey source bytes) (AreNoKeys source bytes)

-- ---- for private clauses

-- of JSON of this value
abbrev pub IsKeyOfValue : Data → Jwk → Type 0
IsKeyOfValue d jwk = IsNoSet d × ReadsKey d jwk

abbrev pub AreOfValue : Data → KeyList → Type 0
AreOfValue d keys = ((keys.is_set ≡ true) × ReadsItems d keys.items) ⊎ IsOneOf (IsKeyOfValue d) keys

abbrev pub IsNoKeyOfValue : Data → ℕ → Type 0
IsNoKeyOfValue d status = ((jwk : Jwk) → ¬ ReadsKey d jwk) × (status ≡ input_status input.Key)

abbrev pub AreNoneOfValue : Data → ℕ → Type 0
AreNoneOfValue d status = IsNoSet d × IsNoKeyOfValue d status

-- of bytes that are not JSON
abbrev pub IsNoFile : List ℕ → ℕ → Type 0
IsNoFile bytes status = (IsLabelledCertificate bytes × (status ≡ is_certificate))
    ⊎ ((¬ IsLabelledCertificate bytes) × ((k : Kind) × IsFileRefused bytes k × (status ≡ file_status k)))
