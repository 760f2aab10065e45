-- A value without a fault is read as options, and a value with one is not.
use Rattle.std.proofs.Common.{◌≡◌, ℕ, Bool, true, false, ◌||◌, not, List, [], ◌∷◌, Option, Some, None, is_some}
use Rattle.std.proofs.Common.{option_map, unwrap_or, codes, refl, sym, ap, ◌∙◌, if◌then◌else◌, length, ◌≤◌, arith}
use Rattle.std.proofs.lemmas.Bool.{false≢true, true≢false}
use Rattle.std.proofs.lemmas.Option.{none-some, same_Some}
use Rattle.serde_json.specs.View.{items_view}
use Rattle.serde_json.specs.declared.value.Value.{Value}
use Rattle.serde_json.specs.Data.{Data, Members, no_members, member}
use Rattle.serde_json.specs.Find.{get, as_bool, as_str, as_object}
use Rattle.jwt_base.specs.Members.{present, optional, read_option, is_named, texts}
use Rattle.jwt_validation.specs.Options.{Options, defaults}
use Rattle.jwt_validation.specs.OptionsRead.{option_names, has_other, HasOptionNames, whole_number, or_default, text_set}
use Rattle.jwt_validation.specs.OptionsRead.{algorithms_in, settled, usual_options, ReadsTimes}
use Rattle.jwt_validation.specs.OptionsRead.{ReadsOptions, AreStrict, member_is, is_non_empty_list, is_claim_list, has_item}
use Rattle.jwt_validation.specs.OptionsFault.{Shape, shapes, has_form, member_has_form, is_well, first_malformed, first_other}
use Rattle.jwt_validation.specs.OptionsFault.{strict_shapes, asks_strict, first_slip}
use Rattle.jwt_validation.specs.declared.fault.Form.{Form}
use Rattle.jwt_validation.specs.declared.fault.Form.TheVariants.{Whole, Flag, OneText, TextList, AlgorithmList, NonEmptyList}
use Rattle.jwt_validation.specs.declared.fault.Form.TheVariants.{ClaimList}

-- a reader reads just the values of the form
abbrev IsOfForm : {A : Type 0} → Form → (Data → Option A) → Type 0
IsOfForm form reader = (d : Data) → has_form form d ≡ is_some (reader d)

is_some-option_map : {A B : Type 0} (f : A → B) (o : Option A) → is_some (option_map f o) ≡ is_some o
is_some-option_map f None = refl
is_some-option_map f (Some x) = refl

is_text_set : IsOfForm TextList text_set
is_text_set d = sym (is_some-option_map _ (texts d))

some_read : {A : Type 0} (o : Option A) → is_some o ≡ true → (x : A) × (o ≡ Some x)
some_read None e = absurd (false≢true e)
some_read (Some x) e = (x, refl)

-- a member of the form is read
well_present : {A : Type 0} (form : Form) (reader : Data → Option A) → IsOfForm form reader → (p : Option Data)
    → member_has_form form p ≡ true → (x : Option A) × (read_option reader p ≡ Some x)
well_present form reader same None e = (None, refl)
well_present form reader same (Some d) e =
    let (x, at) = some_read (reader d) (sym (same d) ∙ e) in (Some x, ap (option_map Some) at)

well_read : {A : Type 0} (form : Form) (reader : Data → Option A) → IsOfForm form reader → (m : Option Data)
    → member_has_form form (present m) ≡ true → (x : Option A) × (optional reader m ≡ Some x)
well_read form reader same m e = well_present form reader same (present m) e

-- .. or has the default value
default_read : {A : Type 0} (a : A) (form : Form) (reader : Data → Option A) → IsOfForm form reader → (m : Option Data)
    → member_has_form form (present m) ≡ true → (x : A) × (or_default a reader m ≡ Some x)
default_read a form reader same m e =
    let (x, at) = well_read form reader same m e in (unwrap_or x a, ap (option_map (λ o. unwrap_or o a)) at)

-- a member that is read is of the form
present_well : {A : Type 0} (form : Form) (reader : Data → Option A) → IsOfForm form reader → (p : Option Data) (x : Option A)
    → read_option reader p ≡ Some x → member_has_form form p ≡ true
present_well form reader same None x e = refl
present_well form reader same (Some d) x e = same d ∙ some_since (reader d) x e
  where
    some_since : {A : Type 0} (o : Option A) (x : Option A) → option_map Some o ≡ Some x → is_some o ≡ true
    some_since None x e = absurd (none-some _ e)
    some_since (Some a) x e = refl

read_well : {A : Type 0} (form : Form) (reader : Data → Option A) → IsOfForm form reader → (m : Option Data) (x : Option A)
    → optional reader m ≡ Some x → member_has_form form (present m) ≡ true
read_well form reader same m x e = present_well form reader same (present m) x e

default_well : {A : Type 0} (a : A) (form : Form) (reader : Data → Option A) → IsOfForm form reader → (m : Option Data) (x : A)
    → or_default a reader m ≡ Some x → member_has_form form (present m) ≡ true
default_well a form reader same m x e = by_read (optional reader m) refl e
  where
    by_read : (o : Option (Option _)) → optional reader m ≡ o → option_map (λ y. unwrap_or y a) o ≡ Some x
        → member_has_form form (present m) ≡ true
    by_read None at e = absurd (none-some _ e)
    by_read (Some y) at e = read_well form reader same m y at

-- each of the options is absent, null or of its form
abbrev AreWell : Data → List Shape → Type 0
AreWell d [] = Unit {0}
AreWell d (s ∷ ss) = (is_well d s ≡ true) × AreWell d ss

none_malformed : (d : Data) (ss : List Shape) → first_malformed d ss ≡ None → AreWell d ss
none_malformed d [] e = tt
none_malformed d (s ∷ ss) e = by_first (is_well d s) refl e (none_malformed d ss)
  where
    by_first : (b : Bool) → is_well d s ≡ b → (if b then first_malformed d ss else Some s) ≡ None
        → (first_malformed d ss ≡ None → AreWell d ss) → (is_well d s ≡ true) × AreWell d ss
    by_first true at e rest = (at, rest e)
    by_first false at e rest = absurd (none-some s (sym e))

well_none : (d : Data) (ss : List Shape) → AreWell d ss → first_malformed d ss ≡ None
well_none d [] w = refl
well_none d (s ∷ ss) w = rw (w.0) (well_none d ss w.1)

-- items of values are some if the values are
pub has_first : (vs : List Value) → 1 ≤ length vs → has_item (items_view vs) ≡ true
has_first [] h = absurd (omega arith)
has_first (v ∷ vs) h = refl

filled_member : (p : Option Data) → member_is is_non_empty_list p ≡ member_has_form NonEmptyList p
filled_member None = refl
filled_member (Some d) = refl

claims_member : (p : Option Data) → member_is is_claim_list p ≡ member_has_form ClaimList p
claims_member None = refl
claims_member (Some d) = refl

-- strict options are those without an option of another form
pub strict_well : (d : Data) → AreStrict d → first_malformed d strict_shapes ≡ None
strict_well d s = well_none d strict_shapes (
  sym (claims_member (present (get (codes "required_spec_claims") d))) ∙ s.required,
  (
    sym (filled_member (present (get (codes "aud") d))) ∙ s.aud,
    (sym (filled_member (present (get (codes "iss") d))) ∙ s.iss, tt),
  ),
)

pub well_strict : (d : Data) → first_malformed d strict_shapes ≡ None → AreStrict d
well_strict d none =
    let (w1, (w2, (w3, _))) = none_malformed d strict_shapes none in
    record {
      required = claims_member (present (get (codes "required_spec_claims") d)) ∙ w1;
      aud = filled_member (present (get (codes "aud") d)) ∙ w2;
      iss = filled_member (present (get (codes "iss") d)) ∙ w3;
    }

asked_strict : (d : Data) (b : Bool) → or_default false as_bool (get (codes "strict") d) ≡ Some b → asks_strict d ≡ b
asked_strict d b e = ap (λ o. unwrap_or o false) e

-- no slip, whether or not strict options are asked for
no_slip : (d : Data) (b : Bool) → asks_strict d ≡ b → (b ≡ true → AreStrict d) → first_slip d ≡ None
no_slip d true e s = rw (e) (strict_well d (s refl))
no_slip d false e s = rw (e) refl

without_slip : (d : Data) (b : Bool) → asks_strict d ≡ b → first_slip d ≡ None → b ≡ true → AreStrict d
without_slip d true e none is = well_strict d (rw (e) at none)
without_slip d false e none is = absurd (false≢true is)

pub names-first_other : (ms : Members) → has_other option_names ms ≡ is_some (first_other ms)
names-first_other no_members = refl
names-first_other (member k d ms) = by_name (is_named option_names k) (names-first_other ms)
  where
    by_name : (b : Bool) → has_other option_names ms ≡ is_some (first_other ms)
        → (not b || has_other option_names ms) ≡ is_some (if b then first_other ms else Some k)
    by_name true e = e
    by_name false e = refl

-- the times of a value without a malformed option
times_read : (d : Data) (usual : Options) → member_has_form Whole (present (get (codes "leeway") d)) ≡ true
    → member_has_form Whole (present (get (codes "reject_tokens_expiring_in_less_than") d)) ≡ true
    → member_has_form Flag (present (get (codes "validate_exp") d)) ≡ true
    → member_has_form Flag (present (get (codes "validate_nbf") d)) ≡ true
    → member_has_form Flag (present (get (codes "validate_aud") d)) ≡ true
    → (l : ℕ) × (r : ℕ) × (e : Bool) × (n : Bool) × (a : Bool) × ReadsTimes d usual l r e n a
times_read d usual wl wr we wn wa =
    let (l, at_l) = default_read usual.leeway Whole whole_number (λ v. refl) (get (codes "leeway") d) wl in
    let (r, at_r) = default_read usual.reject Whole whole_number (λ v. refl)
    (get (codes "reject_tokens_expiring_in_less_than") d) wr in
    let (e, at_e) = default_read usual.checks_exp Flag as_bool (λ v. refl) (get (codes "validate_exp") d) we in
    let (n, at_n) = default_read usual.checks_nbf Flag as_bool (λ v. refl) (get (codes "validate_nbf") d) wn in
    let (a, at_a) = default_read usual.checks_aud Flag as_bool (λ v. refl) (get (codes "validate_aud") d) wa in
    (l, r, e, n, a, record { at_leeway = at_l; at_reject = at_r; at_exp = at_e; at_nbf = at_n; at_aud = at_a })

-- a value whose members are options, none of which is malformed, is read as options
pub faultless_read : (d : Data) → HasOptionNames d → first_malformed d shapes ≡ None → first_slip d ≡ None
    → (o : Options) × ReadsOptions d o
faultless_read d names none slip =
    let (w1, (w2, (w3, (w4, (w5, (w6, (w7, (w8, (w9, (w10, (w11, (w12, _)))))))))))) = none_malformed d shapes none in
    let (strict, at_strict) = default_read false Flag as_bool (λ v. refl) (get (codes "strict") d) w12 in
    let usual = usual_options strict in
    let (l, r, e, n, a, times) = times_read d usual w2 w3 w4 w5 w6 in
    let (required, at_required) = default_read defaults.required TextList text_set is_text_set
    (get (codes "required_spec_claims") d) w1 in
    let (aud, at_aud) = well_read TextList text_set is_text_set (get (codes "aud") d) w7 in
    let (iss, at_iss) = well_read TextList text_set is_text_set (get (codes "iss") d) w8 in
    let (sub, at_sub) = well_read OneText as_str (λ v. refl) (get (codes "sub") d) w9 in
    let (algorithms, at_algorithms) = default_read [] AlgorithmList algorithms_in (λ v. refl)
    (get (codes "algorithms") d) w10 in
    let (understood, at_understood) = default_read defaults.understood TextList text_set is_text_set
    (get (codes "understood_crit") d) w11 in
    let members : Options = record {
      required = required;
      leeway = l;
      reject = r;
      checks_exp = e;
      checks_nbf = n;
      checks_aud = a;
      aud = aud;
      iss = iss;
      sub = sub;
      algorithms = algorithms;
      understood = understood;
    } in (
      settled strict members,
      record {
        names = names;
        is_strict = strict;
        at_strict = at_strict;
        strict = without_slip d strict (asked_strict d strict at_strict) slip;
        members = members;
        reads = record {
          times = times;
          required = at_required;
          aud = at_aud;
          iss = at_iss;
          sub = at_sub;
          algorithms = at_algorithms;
          understood = at_understood;
        };
        options = refl;
      },
    )

-- no option of a value that is read as options is malformed
pub read_faultless : (d : Data) (o : Options) → ReadsOptions d o → first_malformed d shapes ≡ None
read_faultless d o r =
    let m = r.reads in
    let t = m.times in
    let usual = usual_options r.is_strict in
    well_none d shapes (
      default_well defaults.required TextList text_set is_text_set (get (codes "required_spec_claims") d) _ m.required,
      (
        default_well usual.leeway Whole whole_number (λ v. refl) (get (codes "leeway") d) _ t.at_leeway,
        (
          default_well usual.reject Whole whole_number (λ v. refl) (get (codes "reject_tokens_expiring_in_less_than") d) _
              t.at_reject,
          (
            default_well usual.checks_exp Flag as_bool (λ v. refl) (get (codes "validate_exp") d) _ t.at_exp,
            (
              default_well usual.checks_nbf Flag as_bool (λ v. refl) (get (codes "validate_nbf") d) _ t.at_nbf,
              (
                default_well usual.checks_aud Flag as_bool (λ v. refl) (get (codes "validate_aud") d) _ t.at_aud,
                (
                  read_well TextList text_set is_text_set (get (codes "aud") d) _ m.aud,
                  (
                    read_well TextList text_set is_text_set (get (codes "iss") d) _ m.iss,
                    (
                      read_well OneText as_str (λ v. refl) (get (codes "sub") d) _ m.sub,
                      (
                        default_well [] AlgorithmList algorithms_in (λ v. refl) (get (codes "algorithms") d) _ m.algorithms,
                        (
                          default_well defaults.understood TextList text_set is_text_set
                              (get (codes "understood_crit") d) _ m.understood,
                          (
                            default_well false Flag as_bool (λ v. refl) (get (codes "strict") d) _ r.at_strict,
                            tt,
                          ),
                        ),
                      ),
                    ),
                  ),
                ),
              ),
            ),
          ),
        ),
      ),
    )

-- the members are those of options
pub known_names : (d : Data) (ms : Members) → as_object d ≡ Some ms → first_other ms ≡ None → HasOptionNames d
known_names d ms e none = rw (e) (ap Some (names-first_other ms ∙ ap is_some none))

-- a value with a member of another name is not read as options
pub other_unread : (d : Data) (ms : Members) (name : List ℕ) → as_object d ≡ Some ms → first_other ms ≡ Some name
    → (o : Options) → ReadsOptions d o → ⊥
other_unread d ms name e some o r =
    let has = same_Some _ _ (rw (e) at r.names) in
    true≢false (sym (ap is_some some) ∙ (sym (names-first_other ms) ∙ has))

-- nor is one with a malformed option
pub malformed_unread : (d : Data) (s : Shape) → first_malformed d shapes ≡ Some s → (o : Options) → ReadsOptions d o → ⊥
malformed_unread d s some o r = none-some s (sym (read_faultless d o r) ∙ some)

-- nor is one with a slip in strict options
pub slip_unread : (d : Data) (s : Shape) → first_slip d ≡ Some s → (o : Options) → ReadsOptions d o → ⊥
slip_unread d s some o r =
    none-some s (sym (no_slip d r.is_strict (asked_strict d r.is_strict r.at_strict) r.strict) ∙ some)
