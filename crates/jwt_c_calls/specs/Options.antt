-- A text that is written into options, and the fault of a text that is not options, as it is reported to C.
use Rattle.std.specs.Prelude.{◌≡◌, ◌⊎◌, ◌++◌, ℕ, List, [], Some, codes}
use Rattle.std.specs.Str.{IsUtf8}
use Rattle.serde_json.specs.Data.{Data, string}
use Rattle.serde_json.specs.Written.{compact_text}
use Rattle.jwt_base.specs.JsonText.{IsJson}
use Rattle.jwt_base.specs.Kind as kind
use Rattle.jwt_validation.specs.Options.{Options}
use Rattle.jwt_validation.specs.OptionsFault.{HasFault, Shape, first_malformed}
use Rattle.jwt_validation.specs.OptionsRead.{ReadsOptions}
use Rattle.jwt_validation.specs.declared.fault.Form.{Form}
use Rattle.jwt_validation.specs.declared.fault.Form.TheVariants.{Whole, Flag, OneText, TextList, AlgorithmList, NonEmptyList}
use Rattle.jwt_validation.specs.declared.fault.Form.TheVariants.{ClaimList}
use Rattle.jwt_validation.specs.declared.fault.OptionsFault.{OptionsFault}
use Rattle.jwt_validation.specs.declared.fault.OptionsFault.TheVariants as fault
use Rattle.jwt_c_calls.specs.Calls.{Answer, Returns, Refuses, InputError, Breaks}
use Rattle.jwt_c_calls.specs.JsonTexts.{IsTextOf}
use Rattle.jwt_further.specs.Further.{FurtherRules, ReadsFurther, further_shapes}
use Rattle.jwt_c_calls.specs.Asked.{AskedOptions, ReadsAsked, usual_part}
use Rattle.jwt_c_calls.specs.Inputs.{empty_member}

-- the JSON text of the string (RFC 8259 section 7), which is read back as it; bytes that are not UTF-8 are refused
abbrev pub AnswersQuoted : List ℕ → Answer → Type 0
AnswersQuoted text (Returns quoted) = IsUtf8 text × IsTextOf quoted (string text)
AnswersQuoted text (Refuses k) = (k ≡ kind.OutOfMemory) ⊎ ((k ≡ kind.Utf8) × ¬ IsUtf8 text)
AnswersQuoted text (InputError i) = ⊥
AnswersQuoted text (Breaks f) = ⊥

abbrev pub form_text : Form → List ℕ
form_text Whole = codes " is not a whole number from 0 to 2^64 - 1"
form_text Flag = codes " is not true or false"
form_text OneText = codes " is not a string"
form_text TextList = codes " is not a list of strings"
form_text AlgorithmList = codes " is not a list of names of algorithms"
form_text NonEmptyList = codes " is empty in strict options"
form_text ClaimList = codes " has another claim than exp, nbf, aud, iss and sub in strict options"

-- the member's name as JSON, and what is wrong with it
abbrev pub fault_text : OptionsFault → List ℕ
fault_text fault.NotAnObject = codes "the options are not a JSON object"
fault_text (fault.Unknown name) = compact_text (string name.now) ++ codes " is not an option"
fault_text (fault.Malformed name form) = compact_text (string name.now) ++ form_text form

-- the same of a further rule
abbrev pub shape_text : Shape → List ℕ
shape_text s = compact_text (string s.name) ++ form_text s.form

-- the member's name as JSON, and that it has or is an empty string
abbrev pub empty_text : List ℕ → List ℕ
empty_text name = compact_text (string name) ++ codes " has an empty text"

-- nothing, if the value is options; else what keeps the options of `jsonwebtoken` from being some, or the first of the further
-- rules that has another form, or an empty string, which is at fault last
abbrev pub IsValueFault : Data → List ℕ → Type 0
IsValueFault value said = (((a : AskedOptions) × ReadsAsked value a) × (said ≡ []))
    ⊎ (((f : OptionsFault) × HasFault (usual_part value) f × (said ≡ fault_text f))
    ⊎ (((o : Options) × ReadsOptions (usual_part value) o)
    × (((s : Shape) × (first_malformed value further_shapes ≡ Some s) × (said ≡ shape_text s))
    ⊎ (((r : FurtherRules) × ReadsFurther value r)
    × ((name : List ℕ) × (empty_member value ≡ Some name) × (said ≡ empty_text name))))))

-- nothing, if the text describes options; else that it is not JSON, or what keeps its value from being
-- options
abbrev pub AnswersFault : List ℕ → Answer → Type 0
AnswersFault text (Returns said) =
    (((d : Data) → ¬ IsJson text d) × (said ≡ codes "the options are not JSON"))
    ⊎ ((d : Data) × IsJson text d × IsValueFault d said)
AnswersFault text (Refuses k) = k ≡ kind.OutOfMemory
AnswersFault text (InputError i) = ⊥
AnswersFault text (Breaks f) = ⊥
