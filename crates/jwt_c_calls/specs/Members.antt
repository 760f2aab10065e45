-- A value at a path of names in a JSON object, as it is handed to C.
use Rattle.std.specs.Prelude.{◌≡◌, ◌⊎◌, ◌∷◌, ℕ, List, [], Option, None, Some, IsSome, option_and_then}
use Rattle.std.specs.Str.{IsUtf8}
use Rattle.json.specs.Find.{as_object, get}
use Rattle.json.specs.Json.{Json, null, boolean, number, string, array, object, document}
use Rattle.json.specs.Print.{print}
use Rattle.json.specs.Tree.{json_tokens}
use Rattle.jwt_base.specs.JsonText.{ReadsText}
use Rattle.jwt_base.specs.Members.{texts}
use Rattle.serde_json.specs.Data.{Data}
use Rattle.jwt_c_calls.specs.Calls.{Answer, AnswersBy, Leaves, IsErrorOfTwo}
use Rattle.jwt_c_calls.specs.Status.{no_member, IsGiven, IsKept}
use Rattle.jwt_c_calls.specs.declared.inputs.Input.TheVariants as input
use Rattle.jwt_c_calls.specs.declared.members.Found.{Found}

-- the list of strings is a path, which has a name at least
abbrev pub IsPath : Data → List (List ℕ) → Type 0
IsPath value names = (texts value ≡ Some names) × (¬ (names ≡ []))

abbrev pub ReadsPath : List ℕ → List (List ℕ) → Type 0
ReadsPath = ReadsText IsPath

-- the text is JSON of this object (RFC 8259), whose numbers keep their digits
abbrev pub ReadsObject : List ℕ → Json → Type 0
ReadsObject text value = IsUtf8 text × (document text ≡ Some value) × IsSome (as_object value)

-- the value at a path: each name is that of a member of the value before it, and of several members the last counts
abbrev pub value_at : List (List ℕ) → Json → Option Json
value_at [] value = Some value
value_at (name ∷ names) value = option_and_then (value_at names) (get name value)

-- the number of a value's type (RFC 8259 section 3)
abbrev pub type_number : Json → ℕ
type_number null = 1
type_number (boolean b) = 2
type_number (number n) = 3
type_number (string s) = 4
type_number (array js) = 5
type_number (object ms) = 6

-- the text of a string is its own bytes, and that of any other value its JSON without space, with the digits of its numbers
abbrev pub value_text : Json → List ℕ
value_text null = print (json_tokens null)
value_text (boolean b) = print (json_tokens (boolean b))
value_text (number n) = print (json_tokens (number n))
value_text (string s) = s
value_text (array js) = print (json_tokens (array js))
value_text (object ms) = print (json_tokens (object ms))

-- the texts of a path and of an object
abbrev pub ReadsAsked : List ℕ → List ℕ → List (List ℕ) × Json → Type 0
ReadsAsked path text e = ReadsPath path e.0 × ReadsObject text e.1

-- the value at the path in the object
pub record IsFound (path text : List ℕ) (found : Found) : Type 0 where
  pub names : List (List ℕ)
  pub object_read : Json
  pub value : Json
  pub reads : ReadsAsked path text (names, object_read)
  pub named : value_at names object_read ≡ Some value
  pub type : found.type_number ≡ type_number value
  pub shown : found.text.items ≡ value_text value

-- the object has no value at the path
pub record IsAbsent (path text : List ℕ) : Type 0 where
  pub names : List (List ℕ)
  pub object_read : Json
  pub reads : ReadsAsked path text (names, object_read)
  pub unnamed : value_at names object_read ≡ None

-- one of the texts is at fault, that of the path first, or memory ran out
abbrev pub AnswersNothing : List ℕ → List ℕ → Answer → Type 0
AnswersNothing path text = AnswersBy {E = List (List ℕ) × Json}
    (ReadsAsked path text) (IsErrorOfTwo input.Path (ReadsPath path) input.Claims (ReadsObject text))
    (λ _ _. ⊥) (λ _ _. ⊥)

-- the value's type and text; or the status that says that there is none; or a text is refused
abbrev pub LeavesMember : List ℕ → List ℕ → ℕ → ℕ → ℕ → List ℕ → List ℕ → Type 0
LeavesMember json path type status len before after =
    ((f : Found) × IsFound path json f × (type ≡ f.type_number)
    × IsGiven f.text.items status len before after)
    ⊎ (((type ≡ 0) × IsAbsent path json × IsKept no_member status len before after)
    ⊎ ((a : Answer) × (type ≡ 0) × AnswersNothing path json a × Leaves a status len before after))
