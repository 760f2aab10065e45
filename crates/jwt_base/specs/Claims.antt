-- The text that claims are written as, and the values that claims of the plain types are read from.
use Rattle.std.specs.Prelude.{◌≡◌, ℕ, ◌<◌, ◌≤◌, ◌^◌, List, Bool, false, ℤ, pos, Some, option_and_then, FitsSigned}
use Rattle.std.specs.Int.{Width}
use Rattle.serde_json.specs.Data.{Data, depth}
use Rattle.serde_json.specs.Read.{max_depth}
use Rattle.serde_json.specs.View.{view}
use Rattle.serde_json.specs.Written.{compact_text, has_float}
use Rattle.serde_json.specs.declared.value.Value.{Value}
use Rattle.jwt_base.specs.JsonText.{IsJson}
use Rattle.serde_json.specs.Find.{as_str, as_bool, as_number, as_integer}

-- the value holds no float, and this is its JSON text without space (RFC 8259), which reads back if
-- it nests no deeper than the reader allows
pub record IsCompact (d : Data) (text : List ℕ) : Type 0 where
  pub no_float : has_float d ≡ false
  pub is_text : text ≡ compact_text d
  pub reads_back : depth d ≤ max_depth → IsJson text d

-- the claims are the value itself
abbrev pub IsValue : Data → Value → Type 0
IsValue d value = view value ≡ d

-- the value is this string
abbrev pub IsText : Data → List ℕ → Type 0
IsText d s = as_str d ≡ Some s

-- the value is this truth value
abbrev pub IsTruth : Data → Bool → Type 0
IsTruth d b = as_bool d ≡ Some b

-- the value is this whole number
abbrev pub IsWhole : Data → ℤ → Type 0
IsWhole d z = option_and_then as_integer (as_number d) ≡ Some z

-- the value is this whole number, and it is below 2 to that power
abbrev pub IsUnsigned : ℕ → Data → ℕ → Type 0
IsUnsigned bits d n = (n < 2 ^ bits) × IsWhole d (pos n)

-- the value is this whole number, and it is in the range of signed integers of that width
abbrev pub IsSigned : Width → Data → ℤ → Type 0
IsSigned width d z = FitsSigned width z × IsWhole d z
