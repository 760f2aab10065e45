use Rattle.jwt_validation.specs.OptionsOf.{options_of}
use Rattle.jwt_command.proofs.run.run_verify_lines.Goals as goal

pub returns : goal.returns
returns g c = (
  c.in_ok-loaded.loaded,
  (options_of c.in_ok-loaded.validation, c.in_ok-loaded.ensures, c.in_ok-tally.ensures),
)
