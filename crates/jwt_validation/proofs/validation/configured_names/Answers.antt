use Rattle.std.proofs.Common.{◌≡◌, Option, Some, None, refl, sym, ap, ◌∙◌, codes}
use Rattle.std.specs.HashSet.{contains_text}
use Rattle.std.specs.Option.{is_some, option_map}
use Rattle.std.specs.String.{string_bytes}
use Rattle.jwt_validation.specs.Options.{with_name}
use Rattle.jwt_validation.specs.OptionsOf.{options_of}
use Rattle.jwt_validation.proofs.validation.configured_names.Goals as goal

is_some_mapped : {A B : Type 0} (f : A → B) (o : Option A) → is_some (option_map f o) ≡ is_some o
is_some_mapped f None = refl
is_some_mapped f (Some a) = refl

pub returns-clause-ok : goal.returns-clause-ok
returns-clause-ok c =
    let v = c.args.validation.now in
    let aud : contains_text c.insert_if.new.names ≡ with_name (is_some (options_of v).aud) (codes "aud")
    (contains_text v.required_spec_claims) =
    rw (is_some_mapped contains_text v.aud, sym c.is_some.ensures, sym c.in_ok-names.ensures.ok)
    (λ i t. c.in_ok-insert_if.ensures.ok t i) in
    let iss : contains_text c.insert_if-2.new.names ≡ with_name (is_some (options_of v).iss) (codes "iss")
    (contains_text c.insert_if.new.names) =
    rw (is_some_mapped contains_text v.iss, sym c.is_some-2.ensures) (λ i t. c.in_ok-insert_if-2.ensures.ok t i) in
    let sub : contains_text c.insert_if-3.new.names ≡ with_name (is_some (options_of v).sub) (codes "sub")
    (contains_text c.insert_if-2.new.names) =
    rw (is_some_mapped string_bytes v.sub, sym c.is_some-3.ensures) (λ i t. c.in_ok-insert_if-3.ensures.ok t i) in
    sub ∙ ap (with_name _ (codes "sub")) (iss ∙ ap (with_name _ (codes "iss")) aud)
