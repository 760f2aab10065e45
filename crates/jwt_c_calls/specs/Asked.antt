-- The options of a call: those of `jsonwebtoken`, and the further rules.
use Rattle.std.specs.Prelude.{◌≡◌, ℕ, None}
use Rattle.std.specs.Option.{option_map_or}
use Rattle.serde_json.specs.Data.{Data, null, object}
use Rattle.serde_json.specs.Find.{as_object}
use Rattle.jwt_base.specs.Members.{without}
use Rattle.jwt_further.specs.Further.{FurtherRules, ReadsFurther, further_names, rules_of}
use Rattle.jwt_validation.specs.Options.{Options}
use Rattle.jwt_validation.specs.OptionsOf.{options_of}
use Rattle.jwt_validation.specs.OptionsRead.{ReadsOptions}
use Rattle.jwt_c_calls.specs.Inputs.{empty_member}
use Rattle.jwt_c_calls.specs.declared.asked.Asked.{Asked}

pub record AskedOptions : Type 0 where
  pub usual : Options
  pub further : FurtherRules

-- the members of options under other names than those of the further rules; null of a value that is not an object
abbrev pub usual_part : Data → Data
usual_part value = option_map_or (λ members. object (without further_names members)) (as_object value) null

-- the value describes these options, and no empty string
pub record ReadsAsked (value : Data) (asked : AskedOptions) : Type 0 where
  pub no_empty : empty_member value ≡ None
  pub further : ReadsFurther value asked.further
  pub usual : ReadsOptions (usual_part value) asked.usual

-- for private clauses: the options that were read
abbrev pub asked_of : Asked → AskedOptions
asked_of a = record { usual = options_of a.validation; further = rules_of a.further }
