use Rattle.std.proofs.Common.{option_map}
use Rattle.jwt_validation.specs.OptionsOf.{options_of}
use Rattle.jwt_command.proofs.TypedVerdict.{refused, typed}
use Rattle.jwt_command.proofs.verify.verdict.verify_with_type.Goals as goal

pub returns-in-Ok-clause-ok : goal.returns-in-Ok-clause-ok
returns-in-Ok-clause-ok c = typed c.args.case.token.now c.args.case.loaded.now.keys.keys (options_of c.args.validation.now)
    c.args.case.time (option_map (λ s. s.now) c.args.case.typ) c.in-Ok.contents c.check_type.result c.in-Ok.ensures
    c.check_type.ensures.accepted c.check_type.ensures.other_type

pub returns-in_ok-reason-in-Err-clause-ok : goal.returns-in_ok-reason-in-Err-clause-ok
returns-in_ok-reason-in-Err-clause-ok c = refused c.args.case.token.now c.args.case.loaded.now.keys.keys (options_of c.args.validation.now)
    c.args.case.time (option_map (λ s. s.now) c.args.case.typ) c.in-Err.refusal c.in_ok-reason-in-Err.reason c.in-Err.ensures
    c.in_ok-reason-in-Err.ensures.ok.0 c.in_ok-reason-in-Err.ensures.ok.1
