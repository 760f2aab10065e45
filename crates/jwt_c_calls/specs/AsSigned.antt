-- The text in which a JSON part of a token is handed out.
use Rattle.std.specs.Prelude.{◌≡◌, ◌⊎◌, ℕ, List, Bool, true, false, IsSomeAnd}
use Rattle.std.specs.Str.{IsUtf8}
use Rattle.json.specs.Json.{document}
use Rattle.json.specs.Strict.{HasUniqueKeys}
use Rattle.serde_json.specs.Data.{Data}
use Rattle.jwt_c_calls.specs.JsonTexts.{IsTextOf}

-- JSON in which no object, at any depth, has a name twice: so all readers see the same members (RFC 8259 section 4)
abbrev pub HasUniqueNames : List ℕ → Type 0
HasUniqueNames bytes = IsUtf8 bytes × IsSomeAnd (document bytes) HasUniqueKeys

-- The text of the value that these bytes are: the bytes themselves if no object has a name twice, and else JSON of the
-- value, in which the last member of each name stays.
abbrev pub IsShownAs : List ℕ → Data → List ℕ → Bool → Type 0
IsShownAs bytes value text as_signed = (HasUniqueNames bytes × (text ≡ bytes) × (as_signed ≡ true))
    ⊎ ((¬ HasUniqueNames bytes) × IsTextOf text value × (as_signed ≡ false))
