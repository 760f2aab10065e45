-- An object whose members have their forms is read as rules.
use Rattle.std.proofs.Common.{◌≡◌, true, [], Option, Some, None, is_some, IsSome, option_map, unwrap_or, codes, refl, sym, ◌∙◌}
use Rattle.std.proofs.Common.{false}
use Rattle.std.proofs.lemmas.Bool.{false≢true}
use Rattle.serde_json.specs.Data.{Data}
use Rattle.serde_json.specs.Find.{get, as_bool, as_object}
use Rattle.jwt_base.specs.Members.{present, read_option, texts}
use Rattle.jwt_validation.specs.OptionsFault.{shape, has_form, member_has_form, is_well}
use Rattle.jwt_validation.specs.declared.fault.Form.{Form}
use Rattle.jwt_validation.specs.declared.fault.Form.TheVariants.{Flag, TextList}
use Rattle.jwt_further.specs.Further.{FurtherRules, ReadsFurther}

-- a reader reads just the values of the form
abbrev IsOfForm : {A : Type 0} → Form → (Data → Option A) → Type 0
IsOfForm form reader = (d : Data) → has_form form d ≡ is_some (reader d)

-- the value that is read, or the default
abbrev or_usual : {A : Type 0} → A → Option (Option A) → Option A
or_usual a o = option_map (λ x. unwrap_or x a) o

some_usual : {A : Type 0} (a : A) (o : Option A) → is_some o ≡ true → (x : A) × (or_usual a (option_map Some o) ≡ Some x)
some_usual a None e = absurd (false≢true e)
some_usual a (Some x) e = (x, refl)

-- a member of the form is read
well_read : {A : Type 0} (a : A) (form : Form) (reader : Data → Option A) → IsOfForm form reader → (p : Option Data)
    → member_has_form form p ≡ true → (x : A) × (or_usual a (read_option reader p) ≡ Some x)
well_read a form reader same None e = (a, refl)
well_read a form reader same (Some d) e = some_usual a (reader d) (sym (same d) ∙ e)

pub rules_read : (d : Data) → is_well d (shape (codes "issued_at") Flag) ≡ true
    → is_well d (shape (codes "required") TextList) ≡ true → is_well d (shape (codes "texts") TextList) ≡ true
    → is_well d (shape (codes "one_audience") Flag) ≡ true → IsSome (as_object d)
    → (r : FurtherRules) × ReadsFurther d r
rules_read d wi wr wt wa object =
    let (i, at_i) = well_read false Flag as_bool (λ v. refl) (present (get (codes "issued_at") d)) wi in
    let (r, at_r) = well_read [] TextList texts (λ v. refl) (present (get (codes "required") d)) wr in
    let (t, at_t) = well_read [] TextList texts (λ v. refl) (present (get (codes "texts") d)) wt in
    let (a, at_a) = well_read false Flag as_bool (λ v. refl) (present (get (codes "one_audience") d)) wa in (
      record { issued_at = i; required = r; texts = t; one_audience = a },
      record { is_object = object; at_issued = at_i; at_required = at_r; at_texts = at_t; at_audience = at_a },
    )
