-- Whole numbers at members.
use Rattle.std.specs.Prelude.{ℕ, List, Option, option_and_then}
use Rattle.serde_json.specs.Data.{Data}
use Rattle.serde_json.specs.Find.{get, as_number, as_u64}

-- the whole number at a member
abbrev pub number_at : List ℕ → Data → Option ℕ
number_at name d = option_and_then as_u64 (option_and_then as_number (get name d))
