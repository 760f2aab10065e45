-- How the options of a validation are read from a JSON object.
use Rattle.std.specs.Prelude.{◌≡◌, ℕ, List, [], ◌∷◌, ◌||◌, ◌&&◌, Bool, false, true, not, Option, Some, None, option_map}
use Rattle.std.specs.Prelude.{option_and_then}
use Rattle.std.specs.Prelude.{unwrap_or, codes, if◌then◌else◌}
use Rattle.serde_json.specs.Data.{Data, Items, no_items, item, Members, no_members, member}
use Rattle.serde_json.specs.Find.{get, as_bool, as_str, as_number, as_u64, as_array, as_object}
use Rattle.jwt_base.specs.Algorithm.{algorithm_from}
use Rattle.jwt_base.specs.Members.{optional, present, is_named, texts}
use Rattle.jwt_base.specs.declared.algorithms.Algorithm.{Algorithm}
use Rattle.jwt_validation.specs.Options.{Options, Texts, among, defaults, strict_options, requiring_configured}

abbrev pub option_names : List (List ℕ)
option_names = codes "required_spec_claims" ∷ codes "leeway" ∷ codes "reject_tokens_expiring_in_less_than"
    ∷ codes "validate_exp" ∷ codes "validate_nbf" ∷ codes "validate_aud" ∷ codes "aud" ∷ codes "iss"
    ∷ codes "sub" ∷ codes "algorithms" ∷ codes "understood_crit" ∷ codes "strict" ∷ []

-- whether a member has none of these names
abbrev pub has_other : List (List ℕ) → Members → Bool
has_other names no_members = false
has_other names (member k d ms) = not (is_named names k) || has_other names ms

-- it is an object, and each of its members is an option
abbrev pub HasOptionNames : Data → Type 0
HasOptionNames d = option_map (has_other option_names) (as_object d) ≡ Some false

-- a whole number from 0 to 2^64 - 1
abbrev pub whole_number : Data → Option ℕ
whole_number d = option_and_then as_u64 (as_number d)

-- an optional member: the default if it is absent or null
abbrev pub or_default : {A : Type 0} → A → (Data → Option A) → Option Data → Option A
or_default a reader d = option_map (λ o. unwrap_or o a) (optional reader d)

-- the set of the strings of a list
abbrev pub text_set : Data → Option Texts
text_set d = option_map (among (λ s. s)) (texts d)

-- the algorithms that a list names, each by its name and nothing else (RFC 7518 section 3.1, RFC 8037 section 3.1)
abbrev pub item_algorithms : Items → Option (List Algorithm)
item_algorithms no_items = Some []
item_algorithms (item d ds) =
    option_and_then (λ a. option_map (λ rest. a ∷ rest) (item_algorithms ds)) (algorithm_from d)

abbrev pub algorithms_in : Data → Option (List Algorithm)
algorithms_in d = option_and_then item_algorithms (as_array d)

-- the options whose values absent members have, with no algorithm
abbrev pub usual_options : Bool → Options
usual_options is_strict = if is_strict then strict_options [] else defaults

-- the times in seconds, and which claims are checked
pub record ReadsTimes (d : Data) (usual : Options) (leeway reject : ℕ) (checks_exp checks_nbf checks_aud : Bool) : Type 0 where
  pub at_leeway : or_default usual.leeway whole_number (get (codes "leeway") d) ≡ Some leeway
  pub at_reject :
      or_default usual.reject whole_number (get (codes "reject_tokens_expiring_in_less_than") d) ≡ Some reject
  pub at_exp : or_default usual.checks_exp as_bool (get (codes "validate_exp") d) ≡ Some checks_exp
  pub at_nbf : or_default usual.checks_nbf as_bool (get (codes "validate_nbf") d) ≡ Some checks_nbf
  pub at_aud : or_default usual.checks_aud as_bool (get (codes "validate_aud") d) ≡ Some checks_aud

-- each option by its name, absent ones by the usual values
pub record ReadsMembers (d : Data) (usual : Options) (o : Options) : Type 0 where
  pub times : ReadsTimes d usual o.leeway o.reject o.checks_exp o.checks_nbf o.checks_aud
  pub required : or_default defaults.required text_set (get (codes "required_spec_claims") d)
      ≡ Some o.required
  pub aud : optional text_set (get (codes "aud") d) ≡ Some o.aud
  pub iss : optional text_set (get (codes "iss") d) ≡ Some o.iss
  pub sub : optional as_str (get (codes "sub") d) ≡ Some o.sub
  pub algorithms : or_default defaults.algorithms algorithms_in (get (codes "algorithms") d) ≡ Some o.algorithms
  pub understood : or_default defaults.understood text_set (get (codes "understood_crit") d) ≡ Some o.understood

-- a list that is not empty
abbrev pub has_item : Items → Bool
has_item no_items = false
has_item (item d ds) = true

abbrev pub is_non_empty_list : Data → Bool
is_non_empty_list d = unwrap_or (option_map has_item (as_array d)) false

-- a list of names of claims that can be required (RFC 7519 sections 4.1.1 to 4.1.5)
abbrev pub claim_names : List (List ℕ)
claim_names = codes "exp" ∷ codes "nbf" ∷ codes "aud" ∷ codes "iss" ∷ codes "sub" ∷ []

abbrev pub is_claim_name : Data → Bool
is_claim_name d = unwrap_or (option_map (is_named claim_names) (as_str d)) false

abbrev pub are_claim_names : Items → Bool
are_claim_names no_items = true
are_claim_names (item d ds) = is_claim_name d && are_claim_names ds

abbrev pub is_claim_list : Data → Bool
is_claim_list d = unwrap_or (option_map are_claim_names (as_array d)) false

-- an optional member has this property, if it is there and not null
abbrev pub member_is : (Data → Bool) → Option Data → Bool
member_is test None = true
member_is test (Some d) = test d

-- Strict options have no slip that leaves out a check, or refuses every token: audiences and issuers that are listed are at
-- least one, and each required claim can be required.
pub record AreStrict (d : Data) : Type 0 where
  pub required : member_is is_claim_list (present (get (codes "required_spec_claims") d)) ≡ true
  pub aud : member_is is_non_empty_list (present (get (codes "aud") d)) ≡ true
  pub iss : member_is is_non_empty_list (present (get (codes "iss") d)) ≡ true

-- strict options require the configured claims too
abbrev pub settled : Bool → Options → Options
settled is_strict o = if is_strict then requiring_configured o else o

-- the options of an object: its members are options, and it has no others
pub record ReadsOptions (d : Data) (o : Options) : Type 0 where
  pub names : HasOptionNames d
  pub is_strict : Bool
  pub at_strict : or_default false as_bool (get (codes "strict") d) ≡ Some is_strict
  pub strict : is_strict ≡ true → AreStrict d
  pub members : Options
  pub reads : ReadsMembers d (usual_options is_strict) members
  pub options : o ≡ settled is_strict members
