-- Values that are known by their names.
-- A name that is known or free has one form: the text of each value, the known values, what any other text becomes,
-- and which values these are. The value that a text names, the written text and the normal form are defined by the
-- form, and that equality decides sameness is proved of it.
use Rattle.std.specs.Prelude.{ℕ, List, Bool, Option, find, option_map, unwrap_or}
use Rattle.std.specs.Str.{bytes_eq}
use Rattle.serde_json.specs.Data.{Data, string}
use Rattle.serde_json.specs.Find.{as_str}

-- the value of the list with that name
abbrev pub spelled : {A : Type 0} → (A → List ℕ) → List A → List ℕ → Option A
spelled name all text = find (λ a. bytes_eq text (name a)) all

-- a type in which some names are known, and every other one is kept as a free string
pub record Spelling (A : Type 0) : Type 0 where
  pub text : A → List ℕ
  pub known : List A
  pub other : List ℕ → A
  pub is_other : A → Bool

-- the known value of that string, else the string itself
abbrev pub named : {A : Type 0} → Spelling A → List ℕ → A
named n s = unwrap_or (spelled n.text n.known s) (n.other s)

-- the value that a JSON string names
abbrev pub named_from : {A : Type 0} → Spelling A → Data → Option A
named_from n d = option_map (named n) (as_str d)

abbrev pub named_value : {A : Type 0} → Spelling A → A → Data
named_value n a = string (n.text a)

-- a free string that is a known spelling becomes the known value
abbrev pub normal_named : {A : Type 0} → Spelling A → A → A
normal_named n a = named n (n.text a)
