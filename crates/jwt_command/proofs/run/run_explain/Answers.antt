use Rattle.std.proofs.lemmas.Result.{IfOk-weaker}
use Rattle.jwt_validation.specs.OptionsOf.{options_of}
use Rattle.jwt_command.proofs.run.run_explain.Goals as goal

pub returns : goal.returns
returns g c =
    IfOk-weaker c.explain_token-answer.result _ _
    (λ a says. (
      says.0,
      says.1,
      (
        says.2.0,
        says.2.1,
        (c.in_ok-loaded.loaded, (options_of c.in_ok-loaded.validation, c.in_ok-loaded.ensures, says.2.2)),
      ),
    ))
    c.explain_token-answer.ensures
