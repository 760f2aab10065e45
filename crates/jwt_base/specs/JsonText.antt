-- The meaning of JSON bytes: serde_json's reading of a value (RFC 8259), over UTF-8 alone.
use Rattle.std.specs.Prelude.{◌≡◌, ℕ, List, Some}
use Rattle.std.specs.Str.{IsUtf8}
use Rattle.serde_json.specs.Data.{Data}
use Rattle.serde_json.specs.Read.{read}

-- the bytes are UTF-8 and read as this value (RFC 7515 section 5.2, RFC 7519 section 7.2, RFC 8259)
abbrev pub IsJson : List ℕ → Data → Type 0
IsJson bytes value = IsUtf8 bytes × (read bytes ≡ Some value)

-- the bytes are JSON, whose value reads as this
abbrev pub ReadsText : {A : Type 0} → (Data → A → Type 0) → List ℕ → A → Type 0
ReadsText reads bytes a = (value : Data) × (IsJson bytes value × reads value a)
