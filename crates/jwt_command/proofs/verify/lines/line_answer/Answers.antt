use Rattle.std.proofs.Common.{string_bytes}
use Rattle.jwt_command.proofs.verify.lines.line_answer.Goals as goal

pub returns : goal.returns
returns g c =
    let token = c.strip_line_end-token in (
      c.args.line.now,
      (
        c.in_ok-time.time,
        c.in_ok-time.ensures,
        (string_bytes c.in_ok-answer.answer.output, (token.result.now, token.ensures, c.in_ok-answer.ensures)),
      ),
    )
