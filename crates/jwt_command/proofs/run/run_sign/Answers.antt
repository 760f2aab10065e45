use Rattle.std.proofs.lemmas.Result.{IfOk-weaker}
use Rattle.jwt_command.proofs.run.run_sign.Goals as goal

pub returns : goal.returns
returns g c =
    IfOk-weaker c.sign_claims.result _ _ (λ a says. (_, _, (c.in_ok-time.time, c.in_ok-time.ensures, says)))
    c.sign_claims.ensures
