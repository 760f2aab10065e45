use Rattle.jwt_validation.specs.OptionsOf.{options_of}
use Rattle.std.proofs.Common.{option_map}
use Rattle.jwt_command.proofs.TypedVerdict.{refusal_if_any}
use Rattle.jwt_command.proofs.verify.verdict.refusal_of.Goals as goal

pub returns-clause-ok : goal.returns-clause-ok
returns-clause-ok c =
    let says = c.in_ok-verdict.ensures.ok in (
      says.0,
      says.1,
      rw c.err.ensures.value (refusal_if_any c.args.case.token.now c.args.case.loaded.now.keys.keys
          (options_of c.args.validation.now) c.args.case.time (option_map (λ s. s.now) c.args.case.typ) says.0
          c.in_ok-verdict.verdict says.2),
    )
