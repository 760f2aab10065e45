use Rattle.jwt_validation.specs.OptionsOf.{options_of}
use Rattle.jwt_command.proofs.Required.{not_strict}
use Rattle.jwt_command.proofs.verify.options.make_strict_if.Goals as goal

pub returns-then-not-is_strict : goal.returns-then-not-is_strict
returns-then-not-is_strict c =
    not_strict c.args.is_strict (options_of c.args.validation.now) c.if-not-is_strict.true
