use Rattle.std.proofs.Common.{rules}
use Rattle.jwt_validation.specs.OptionsOf.{options_of}
use Rattle.jwt_command.proofs.Required.{changes}
use Rattle.jwt_command.proofs.verify.options.change.Goals as goal

pub returns : goal.returns
returns c = changes c.args.checks.now (options_of c.args.validation.now) (options_of c.set_names.new.validation)
    (options_of c.set_times.new.validation) _
    (search rules) c.set_times.ensures c.in_ok-set_required.ensures
