-- The JSON text of a value, as it is handed out.
use Rattle.std.specs.Prelude.{◌≡◌, ℕ, List, false}
use Rattle.json.specs.Lex.{tokens}
use Rattle.json.specs.Print.{print}
use Rattle.serde_json.specs.Data.{Data}
use Rattle.serde_json.specs.Written.{has_float, compact_text, IsInOrder}
use Rattle.jwt_base.specs.JsonText.{IsJson}

-- The text is JSON of the value, without space, with its members in the order of their names (RFC
-- 8259). The text of a float is read back as that float.
pub record IsTextOf (text : List ℕ) (value : Data) : Type 0 where
  pub json : IsJson text value
  pub compact : text ≡ print (tokens text)
  pub order : IsInOrder text value
  pub exact : has_float value ≡ false → text ≡ compact_text value
