use Rattle.std.proofs.Common.{subst}
use Rattle.std.proofs.lemmas.Result.{IfOk-weaker}
use Rattle.jwt_command.specs.LineEnd.{IsLessLineEnd}
use Rattle.jwt_command.proofs.run.explain_token.Goals as goal

pub returns : goal.returns
returns g c =
    let token = c.strip_line_end.result.now in
    IfOk-weaker c.explain_answer.result _ _
    (λ a says. (
      c.in_ok-bytes.bytes.items,
      c.in_ok-bytes.ensures,
      (
        c.in_ok-time.time,
        c.in_ok-time.ensures,
        (
          token,
          subst (λ b. IsLessLineEnd b token) c.deref.ensures.value c.strip_line_end.ensures,
          says,
        ),
      ),
    ))
    c.explain_answer.ensures
