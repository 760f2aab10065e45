-- What keeps a JSON value from being the options of a validation.
use Rattle.std.specs.Prelude.{◌≡◌, ◌⊎◌, ℕ, List, [], ◌∷◌, Bool, true, false, Option, Some, None, codes, is_some, unwrap_or}
use Rattle.std.specs.Prelude.{if◌then◌else◌}
use Rattle.serde_json.specs.Data.{Data, Members, no_members, member}
use Rattle.serde_json.specs.Find.{get, as_bool, as_str, as_object}
use Rattle.jwt_base.specs.Members.{present, is_named, texts}
use Rattle.jwt_validation.specs.OptionsRead.{option_names, HasOptionNames, whole_number, algorithms_in, or_default}
use Rattle.jwt_validation.specs.OptionsRead.{is_non_empty_list, is_claim_list}
use Rattle.jwt_validation.specs.declared.fault.Form.{Form}
use Rattle.jwt_validation.specs.declared.fault.Form.TheVariants.{Whole, Flag, OneText, TextList, AlgorithmList, NonEmptyList}
use Rattle.jwt_validation.specs.declared.fault.Form.TheVariants.{ClaimList}
use Rattle.jwt_validation.specs.declared.fault.OptionsFault.{OptionsFault}
use Rattle.jwt_validation.specs.declared.fault.OptionsFault.TheVariants as fault

-- whether the value has this form
abbrev pub has_form : Form → Data → Bool
has_form Whole d = is_some (whole_number d)
has_form Flag d = is_some (as_bool d)
has_form OneText d = is_some (as_str d)
has_form TextList d = is_some (texts d)
has_form AlgorithmList d = is_some (algorithms_in d)
has_form NonEmptyList d = is_non_empty_list d
has_form ClaimList d = is_claim_list d

-- an option: its name, and the form of its value
pub record Shape : Type 0 where
  pub name : List ℕ
  pub form : Form

abbrev pub shape : List ℕ → Form → Shape
shape name form = record { name = name; form = form }

abbrev pub shapes : List Shape
shapes = shape (codes "required_spec_claims") TextList ∷ shape (codes "leeway") Whole
    ∷ shape (codes "reject_tokens_expiring_in_less_than") Whole ∷ shape (codes "validate_exp") Flag
    ∷ shape (codes "validate_nbf") Flag ∷ shape (codes "validate_aud") Flag ∷ shape (codes "aud") TextList
    ∷ shape (codes "iss") TextList ∷ shape (codes "sub") OneText ∷ shape (codes "algorithms") AlgorithmList
    ∷ shape (codes "understood_crit") TextList ∷ shape (codes "strict") Flag ∷ []

-- the options that have a narrower form if they are strict
abbrev pub strict_shapes : List Shape
strict_shapes = shape (codes "required_spec_claims") ClaimList ∷ shape (codes "aud") NonEmptyList
    ∷ shape (codes "iss") NonEmptyList ∷ []

-- whether a member that may be absent or null has this form
abbrev pub member_has_form : Form → Option Data → Bool
member_has_form form None = true
member_has_form form (Some d) = has_form form d

-- whether the value's option is absent, null or of its form
abbrev pub is_well : Data → Shape → Bool
is_well d s = member_has_form s.form (present (get s.name d))

-- the first option that is of another form
abbrev pub first_malformed : Data → List Shape → Option Shape
first_malformed d [] = None
first_malformed d (s ∷ ss) = if is_well d s then first_malformed d ss else Some s

-- whether strict options are asked for
abbrev pub asks_strict : Data → Bool
asks_strict d = unwrap_or (or_default false as_bool (get (codes "strict") d)) false

-- the first option of strict options that is of another form
abbrev pub first_slip : Data → Option Shape
first_slip d = if asks_strict d then first_malformed d strict_shapes else None

-- the first member with a name that no option has
abbrev pub first_other : Members → Option (List ℕ)
first_other no_members = None
first_other (member k d ms) = if is_named option_names k then first_other ms else Some k

-- what keeps the value from being options: it is not an object; or else the first of its members is at
-- fault that no option is named; or else the first option whose value has another form; or else the first
-- of strict options whose value has another form than strict options ask for
abbrev pub HasFault : Data → OptionsFault → Type 0
HasFault d fault.NotAnObject = as_object d ≡ None
HasFault d (fault.Unknown name) =
    (ms : Members) × (as_object d ≡ Some ms) × (first_other ms ≡ Some name.now)
HasFault d (fault.Malformed name form) =
    HasOptionNames d × ((first_malformed d shapes ≡ Some (shape name.now form))
    ⊎ ((first_malformed d shapes ≡ None) × (first_slip d ≡ Some (shape name.now form))))
