-- Claim rules that the crate jsonwebtoken does not have, how they are read from JSON, and the first that claims break.
use Rattle.std.specs.Prelude.{◌≡◌, ◌+◌, ℕ, List, [], ◌∷◌, Bool, false, Option, Some, None, codes, nat_lt}
use Rattle.std.specs.Prelude.{is_none, option_map, if◌then◌else◌, IsSome}
use Rattle.std.specs.Option.{option_or, option_map_or}
use Rattle.std.specs.List.{position}
use Rattle.std.specs.Int.{w64}
use Rattle.std.specs.Float.{binary64, ceil, float_to_unsigned}
use Rattle.serde_json.specs.Data.{Data, Num, unsigned, negative, float}
use Rattle.serde_json.specs.Find.{get, as_bool, as_str, as_number, as_object}
use Rattle.jwt_base.specs.Members.{present, texts}
use Rattle.jwt_validation.specs.OptionsRead.{or_default}
use Rattle.jwt_validation.specs.OptionsFault.{Shape, shape}
use Rattle.jwt_validation.specs.declared.fault.Form.TheVariants.{Flag, TextList}
use Rattle.jwt_further.specs.declared.Further.{Further}
use Rattle.jwt_further.specs.declared.FurtherFault.{FurtherFault}
use Rattle.jwt_further.specs.declared.FurtherFault.TheVariants.{IssuedMalformed, IssuedLater, Missing, NotAText, AudienceIsNoText}

-- ---- the rules

-- whether `iat` is checked, the names of required claims, the names of claims that must be strings, and whether `aud` must be
-- one string
pub record FurtherRules : Type 0 where
  pub issued_at : Bool
  pub required : List (List ℕ)
  pub texts : List (List ℕ)
  pub one_audience : Bool

abbrev pub rules_of : Further → FurtherRules
rules_of f = record {
  issued_at = f.issued_at;
  required = f.required.items;
  texts = f.texts.items;
  one_audience = f.one_audience;
}

-- the rules of an object, whose other members are ignored
pub record ReadsFurther (d : Data) (r : FurtherRules) : Type 0 where
  pub is_object : IsSome (as_object d)
  pub at_issued : or_default false as_bool (get (codes "issued_at") d) ≡ Some r.issued_at
  pub at_required : or_default [] texts (get (codes "required") d) ≡ Some r.required
  pub at_texts : or_default [] texts (get (codes "texts") d) ≡ Some r.texts
  pub at_audience : or_default false as_bool (get (codes "one_audience") d) ≡ Some r.one_audience

-- the members of the rules, and the form of each
abbrev pub further_shapes : List Shape
further_shapes = shape (codes "issued_at") Flag ∷ shape (codes "required") TextList ∷ shape (codes "texts") TextList
    ∷ shape (codes "one_audience") Flag ∷ []

abbrev pub further_names : List (List ℕ)
further_names = codes "issued_at" ∷ codes "required" ∷ codes "texts" ∷ codes "one_audience" ∷ []

-- ---- claims that break a rule

-- The seconds of a NumericDate (RFC 7519 section 2), as a u64 holds them: a part of a second counts as a whole one, a number
-- below 0 is 0, and one that is too large is 2^64 - 1.
abbrev pub seconds_of : Num → ℕ
seconds_of (unsigned n) = n
seconds_of (negative z) = 0
seconds_of (float x) = float_to_unsigned w64 (ceil binary64 x)

-- the number of seconds is after the time and the leeway
abbrev pub later_fault : ℕ → ℕ → Num → Option FurtherFault
later_fault leeway time n = if nat_lt (leeway + time) (seconds_of n) then Some IssuedLater else None

-- `iat`, if it is present, is a number, and not after the time and the leeway (RFC 7519 section 4.1.6)
abbrev pub issued_fault : ℕ → ℕ → Option Data → Option FurtherFault
issued_fault leeway time None = None
issued_fault leeway time (Some d) = option_map_or (later_fault leeway time) (as_number d) (Some IssuedMalformed)

-- whether the claim of this name is absent or null
abbrev pub is_missing : Data → List ℕ → Bool
is_missing d name = is_none (present (get name d))

-- whether the claim of this name is present and not a string; null is not a string
abbrev pub is_not_text : Data → List ℕ → Bool
is_not_text d name = option_map_or (λ claim. is_none (as_str claim)) (get name d) false

-- the fault, if the rule is checked
abbrev pub if_checked : Bool → Option FurtherFault → Option FurtherFault
if_checked is_checked fault = if is_checked then fault else None

-- the fault of an `aud` that is not one string (RFC 7519 section 4.1.3)
abbrev pub audience_fault : Data → Option FurtherFault
audience_fault d = if is_not_text d (codes "aud") then Some AudienceIsNoText else None

-- The first rule that claims break, with the leeway and at the time, in seconds: the time of `iat`, the required claims, the
-- claims that must be strings, and the audience. A place is that of the first name at fault, from 0.
abbrev pub further_fault : FurtherRules → ℕ → ℕ → Data → Option FurtherFault
further_fault r leeway time d =
    option_or (if_checked r.issued_at (issued_fault leeway time (get (codes "iat") d)))
    (option_or (option_map Missing (position (is_missing d) r.required))
    (option_or (option_map NotAText (position (is_not_text d) r.texts))
    (if_checked r.one_audience (audience_fault d))))

-- the claims keep every rule
abbrev pub FurtherHolds : FurtherRules → ℕ → ℕ → Data → Type 0
FurtherHolds r leeway time d = further_fault r leeway time d ≡ None
