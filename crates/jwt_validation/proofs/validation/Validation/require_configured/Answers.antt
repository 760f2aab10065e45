use Rattle.std.proofs.Common.{ap}
use Rattle.jwt_validation.specs.OptionsOf.{options_of}
use Rattle.jwt_validation.proofs.validation.Validation.require_configured.Goals as goal

pub returns-clause-ok : goal.returns-clause-ok
returns-clause-ok c = ap (λ names. record (options_of c.args.self.now) { required = names }) c.in_ok-required.ensures.ok
