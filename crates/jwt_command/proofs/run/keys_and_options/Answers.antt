use Rattle.std.proofs.Common.{◌≡◌, Option, Some, None, is_some, option_map, refl, ◌∙◌}
use Rattle.jwt_validation.specs.OptionsOf.{options_of}
use Rattle.jwt_command.proofs.run.keys_and_options.Goals as goal

is_some-option_map : {A B : Type 0} (f : A → B) (o : Option A) → is_some (option_map f o) ≡ is_some o
is_some-option_map f None = refl
is_some-option_map f (Some x) = refl

pub returns-in-Ok : goal.returns-in-Ok
returns-in-Ok g c = (
  c.in-Ok.ensures.0.0,
  c.in-Ok.ensures.0.1,
  (
    option_map (λ b. b.now) c.as_deref.result,
    is_some-option_map _ c.as_deref.result ∙ (c.as_deref.ensures.variant ∙ c.in_ok-options.ensures),
    (options_of c.in_ok-validation.validation, c.in_ok-validation.ensures, c.in-Ok.ensures.1),
  ),
)
