-- The JSON texts that are arguments of calls for C, and the value that each must describe.
use Rattle.std.specs.Prelude.{◌≡◌, ◌||◌, ℕ, List, [], Bool, false, IsSome, Option, Some, None, Result, Ok, Err, if◌then◌else◌}
use Rattle.std.specs.Prelude.{codes}
use Rattle.std.specs.Option.{option_map_or}
use Rattle.std.specs.Str.{bytes_eq}
use Rattle.serde_json.specs.Data.{Data, Items, no_items, item}
use Rattle.serde_json.specs.Find.{as_array, as_object, as_str, get}
use Rattle.jwt_base.specs.JsonText.{IsJson}
use Rattle.jwt_base.specs.KindOf.{IsMemory}
use Rattle.jwt_base.specs.declared.errors.Error.{Error}
use Rattle.jwt_c_calls.specs.declared.inputs.Input.{Input}
use Rattle.jwt_c_calls.specs.declared.inputs.CallError.{CallError}
use Rattle.jwt_c_calls.specs.declared.inputs.CallError.TheVariants as refused

-- the text is JSON of this object (RFC 7519 section 4)
abbrev pub ReadsClaimsText : List ℕ → Data → Type 0
ReadsClaimsText text value = IsJson text value × IsSome (as_object value)

-- the value is this string
abbrev pub is_text : List ℕ → Data → Bool
is_text text value = option_map_or (λ s. bytes_eq s text) (as_str value) false

-- one of the items is
abbrev pub some_is_text : List ℕ → Items → Bool
some_is_text text no_items = false
some_is_text text (item d ds) = is_text text d || some_is_text text ds

-- the value is a list with an empty string
abbrev pub has_empty_item : Data → Bool
has_empty_item value = option_map_or (some_is_text []) (as_array value) false

-- the member of this name is one
abbrev pub lists_empty : List ℕ → Data → Bool
lists_empty name value = option_map_or has_empty_item (get name value) false

-- the first of the members `aud`, `iss` and `sub` that has or is an empty string, if one does: no issuer and no service has
-- an empty name, so it stands for a setting that was left out
abbrev pub empty_member : Data → Option (List ℕ)
empty_member value = if lists_empty (codes "aud") value then Some (codes "aud")
    else (if lists_empty (codes "iss") value then Some (codes "iss")
    else (if option_map_or (is_text []) (get (codes "sub") value) false then Some (codes "sub") else None))

-- for a private clause: a value that was read is returned; a text that no value was read from is at fault, unless memory ran out
abbrev pub IsReadAs : {T : Type 0} → Input → Result T Error → Result T CallError → Type 0
IsReadAs input (Ok read) (Ok given) = given ≡ read
IsReadAs input (Ok read) (Err r) = ⊥
IsReadAs input (Err e) (Ok given) = ⊥
IsReadAs input (Err e) (Err (refused.Input i)) = (i ≡ input) × (¬ IsMemory e)
IsReadAs input (Err e) (Err (refused.Token f)) = IsMemory e × IsMemory f
IsReadAs input (Err e) (Err (refused.Further f)) = ⊥
