-- The members of a JSON object: how each is read, and how they are written.
use Rattle.std.specs.Prelude.{◌≡◌, false, ℕ, List, [], ◌∷◌, ◌||◌, Bool, Option, Some, None, option_map, option_and_then}
use Rattle.std.specs.Prelude.{map, is_some, if◌then◌else◌}
use Rattle.std.specs.Str.{bytes_eq}
use Rattle.std.specs.List.{list_any}
use Rattle.serde_json.specs.Data.{Data, string, array, Items, no_items, item, Members, no_members, member, put}
use Rattle.serde_json.specs.View.{items_of}
use Rattle.serde_json.specs.Find.{get, as_null, as_str, as_array}

-- the value, unless it is null
abbrev pub not_null : Data → Option Data
not_null d = if is_some (as_null d) then None else Some d

-- the member, unless it is null
abbrev pub present : Option Data → Option Data
present o = option_and_then not_null o

-- the member that the reader reads, if there is one
abbrev pub read_option : {A : Type 0} → (Data → Option A) → Option Data → Option (Option A)
read_option reader None = Some None
read_option reader (Some d) = option_map Some (reader d)

-- an optional member: None if it is absent or null
abbrev pub optional : {A : Type 0} → (Data → Option A) → Option Data → Option (Option A)
optional reader o = read_option reader (present o)

-- the strings of a list that holds nothing else
abbrev pub item_texts : Items → Option (List (List ℕ))
item_texts no_items = Some []
item_texts (item d ds) = option_and_then (λ s. option_map (λ ss. s ∷ ss) (item_texts ds)) (as_str d)

abbrev pub texts : Data → Option (List (List ℕ))
texts d = option_and_then item_texts (as_array d)

abbrev pub texts_value : List (List ℕ) → Data
texts_value ss = array (items_of (map string ss))

abbrev pub is_named : List (List ℕ) → List ℕ → Bool
is_named names k = list_any (bytes_eq k) names

-- the members under other names
abbrev pub without : List (List ℕ) → Members → Members
without names no_members = no_members
without names (member k d ms) = if is_named names k then without names ms else member k d (without names ms)

-- whether a member has one of the names
abbrev pub has_named : List (List ℕ) → Members → Bool
has_named names no_members = false
has_named names (member k d ms) = is_named names k || has_named names ms

-- the members, with d at k if there is a d
abbrev pub put_some : List ℕ → Option Data → Members → Members
put_some k None ms = ms
put_some k (Some d) ms = put k d ms

-- R reads the member, if there is one
abbrev pub ReadsMember : {A : Type 0} → (Data → A → Type 0) → Option Data → Option A → Type 0
ReadsMember R None a = a ≡ None
ReadsMember R (Some d) None = ⊥
ReadsMember R (Some d) (Some a) = R d a

-- an optional member that R reads: None if it is absent or null
abbrev pub ReadsOptional : {A : Type 0} → (Data → A → Type 0) → Option Data → Option A → Type 0
ReadsOptional R o a = ReadsMember R (present o) a

-- an optional value as a member: None if it cannot be written
abbrev pub written_optional : {A : Type 0} → (A → Option Data) → Option A → Option (Option Data)
written_optional writer None = Some None
written_optional writer (Some a) = option_map Some (writer a)

-- the string at a member
abbrev pub text_at : List ℕ → Data → Option (List ℕ)
text_at name d = option_and_then as_str (get name d)
