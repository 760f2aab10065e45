use Rattle.std.proofs.Common.{subst, string_bytes}
use Rattle.std.proofs.lemmas.Result.{IfOk-weaker}
use Rattle.jwt_command.specs.BySignature.{IsInputAnswer}
use Rattle.jwt_command.specs.Claimed.{header_asked}
use Rattle.jwt_command.proofs.run.run_signing_input.Goals as goal

pub returns : goal.returns
returns g c =
    let made = c.in_ok-claims.ensures in
    IfOk-weaker c.input_answer.result _ _
    (λ a says. (
      _,
      (
        c.in_ok-time.time,
        c.in_ok-time.ensures,
        (
          made.0,
          made.1,
          subst (λ d. IsInputAnswer (header_asked c.args.draft.now) d a.status (string_bytes a.output)) made.2 says,
        ),
      ),
    ))
    c.input_answer.ensures
