use Rattle.std.proofs.Common.{subst, string_bytes}
use Rattle.std.proofs.lemmas.Result.{IfOk-weaker}
use Rattle.jwt_command.specs.Answers.{IsSignAnswer}
use Rattle.jwt_command.specs.Claimed.{header_asked}
use Rattle.jwt_command.proofs.run.sign_claims.Goals as goal

pub returns : goal.returns
returns c =
    let made = c.in_ok-claims.ensures in
    IfOk-weaker c.claims_answer.result _ _
    (λ a says. (
      c.in_ok-secret.secret.now,
      c.in_ok-secret.ensures.ok.0,
      c.in_ok-secret.ensures.ok.1,
      (
        made.0,
        made.1,
        subst (λ d. IsSignAnswer (header_asked c.args.request.now.draft) d c.in_ok-secret.secret.now a.status
            (string_bytes a.output)) made.2 says,
      ),
    ))
    c.claims_answer.ensures
