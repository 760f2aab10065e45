-- The statuses for C that say whether a value at a path has a text.
use Rattle.std.specs.Prelude.{◌≡◌, ◌⊎◌, ◌||◌, ℕ, List, Bool, true, false, length, nat_eq, nat_lt, Option}
use Rattle.std.specs.List.{filter, list_any, slice_split}
use Rattle.std.specs.Option.{option_map_or}
use Rattle.std.specs.Str.{bytes_eq}
use Rattle.json.specs.Find.{as_str}
use Rattle.json.specs.Json.{Json, null, boolean, number, string, array, object, Items, no_items, item}
use Rattle.jwt_c_calls.specs.Calls.{Answer, status_of}
use Rattle.jwt_c_calls.specs.Members.{AnswersNothing, ReadsAsked, value_at}
use Rattle.jwt_c_calls.specs.Status.{no_member}

-- what a space parts
abbrev pub parts : List ℕ → List (List ℕ)
parts = slice_split (λ b. nat_eq b 32)

-- the words of a text, none of which is empty (RFC 6749 section 3.3)
abbrev pub words : List ℕ → List (List ℕ)
words s = filter (λ w. nat_lt 0 (length w)) (parts s)

-- an item is this string
abbrev pub is_text : List ℕ → Json → Bool
is_text text value = option_map_or (λ s. bytes_eq s text) (as_str value) false

abbrev pub some_is_text : List ℕ → Items → Bool
some_is_text text no_items = false
some_is_text text (item j js) = is_text text j || some_is_text text js

-- an array has the text as an item, and a string as a word
abbrev pub has_text : List ℕ → Json → Bool
has_text text null = false
has_text text (boolean b) = false
has_text text (number n) = false
has_text text (string s) = list_any (λ w. bytes_eq w text) (words s)
has_text text (array js) = some_is_text text js
has_text text (object ms) = false

-- the value at the path has the text
abbrev pub path_has : List (List ℕ) → List ℕ → Json → Bool
path_has names text value = option_map_or (has_text text) (value_at names value) false

-- the status says whether it does
abbrev pub SaysPathHas : List (List ℕ) → List ℕ → Json → ℕ → Type 0
SaysPathHas names text value status = ((path_has names text value ≡ true) × (status ≡ 0))
    ⊎ ((path_has names text value ≡ false) × (status ≡ no_member))

-- the status says it of the object that the text describes; or a text is at fault, or memory ran out
abbrev pub ChecksMember : List ℕ → List ℕ → List ℕ → ℕ → Type 0
ChecksMember json path text status =
    ((e : List (List ℕ) × Json) × ReadsAsked path json e × SaysPathHas e.0 text e.1 status)
    ⊎ ((a : Answer) × AnswersNothing path json a × (status ≡ status_of a))
