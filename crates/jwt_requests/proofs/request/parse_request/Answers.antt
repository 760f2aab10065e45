use Rattle.std.proofs.Common.{sym}
use Rattle.std.proofs.lemmas.Result.{IfOk-weaker}
use Rattle.clap.specs.Matches.{found_of}
use Rattle.jwt_requests.proofs.request.parse_request.Goals as goal

pub returns-in-Some : goal.returns-in-Some
returns-in-Some c =
    IfOk-weaker c.parse_command.result _ _
    (λ r says. (
      c.in-Some.name.now,
      sym c.in-Some.ensures.name,
      (found_of c.in-Some.found.now, sym c.in-Some.ensures.rows, says),
    ))
    c.parse_command.ensures
