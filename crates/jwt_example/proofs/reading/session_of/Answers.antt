use Rattle.std.proofs.lemmas.Result.{err_from_is_err_and}
use Rattle.jwt_example.proofs.reading.session_of.Goals as goal

pub returns-in_err-data : goal.returns-in_err-data
returns-in_err-data c =
    let p = err_from_is_err_and c.from_residual.result c.from_residual.ensures.1 in
    let said = c.in_err-data.ensures.decided in
    rw (p.1, p.2) record { accepted = tt; exact = said.exact; refused = said.refused }

pub returns : goal.returns
returns c =
    let said = c.in_ok-data.ensures.decided in
    record {
      accepted = (said.accepted.0, said.accepted.1, said.accepted.2.1);
      exact = λ t p. (said.exact t p).1;
      refused = tt;
    }
