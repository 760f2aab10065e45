use Rattle.std.proofs.Common.{subst, string_bytes}
use Rattle.std.proofs.lemmas.Result.{IfOk-weaker}
use Rattle.jwt_command.specs.Answers.{IsVerifyAnswer}
use Rattle.jwt_command.specs.Commands.{type_asked}
use Rattle.jwt_command.specs.LineEnd.{IsLessLineEnd}
use Rattle.jwt_command.proofs.run.verify_token.Goals as goal

pub returns : goal.returns
returns g c =
    let token = c.strip_line_end.result.now in
    IfOk-weaker c.verify_answer.result _ _
    (λ a says. (
      c.in_ok-bytes.bytes.items,
      c.in_ok-bytes.ensures,
      (
        c.in_ok-time.time,
        c.in_ok-time.ensures,
        (
          token,
          subst (λ b. IsLessLineEnd b token) c.deref.ensures.value c.strip_line_end.ensures,
          (
            says.0,
            says.1,
            subst (λ f. IsVerifyAnswer token c.args.loaded.now.keys.keys says.0 c.in_ok-time.time (type_asked c.args.request.now) f
                a.status (string_bytes a.output)) c.form.ensures says.2,
          ),
        ),
      ),
    ))
    c.verify_answer.ensures
