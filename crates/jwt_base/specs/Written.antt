-- The JSON text of a thing that has a JSON value.
use Rattle.std.specs.Prelude.{◌≡◌, ◌↔◌, ℕ, ◌≤◌, List, Option, Some}
use Rattle.serde_json.specs.Data.{Data, depth}
use Rattle.serde_json.specs.Read.{max_depth}
use Rattle.serde_json.specs.Written.{compact_text}
use Rattle.jwt_base.specs.JsonText.{ReadsText}

-- The text is the compact JSON (RFC 8259) of the value that this is written as. If that nests no
-- deeper than is read, the text reads as the normal form, and as nothing else.
pub record HasText {A : Type 0} (reads : Data → A → Type 0) (written : A → Option Data) (normal : A → A) (a : A)
    (text : List ℕ) : Type 0 where
  pub value : Data
  pub is_written : written a ≡ Some value
  pub is_text : text ≡ compact_text value
  pub reads_back : depth value ≤ max_depth → (b : A) → ReadsText reads text b ↔ (b ≡ normal a)
