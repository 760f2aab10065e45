use Rattle.jwt_validation.specs.OptionsOf.{options_of}
use Rattle.jwt_command.proofs.Required.{requested}
use Rattle.jwt_command.proofs.verify.options.requested_validation.Goals as goal

pub returns : goal.returns
returns c =
    requested c.args.checks.now _ (options_of c.in_ok-validation.validation) (options_of c.make_strict_if.new.validation)
    (options_of c.change.new.validation) c.in_ok-validation.ensures.ok c.in_ok-make_strict_if.ensures
    c.in_ok-change.ensures
