use Rattle.std.proofs.lemmas.Result.{IfOk-weaker}
use Rattle.jsonwebtoken.proofs.Vouching.{vouched, passed}
use Rattle.jsonwebtoken.proofs.by_verdict.decode_by_verdict.Goals as goal

pub returns : goal.returns
returns g c =
    let said = rw c.in_ok-key.ensures.ok at c.decode.ensures.decided in
    record {
      accepted = IfOk-weaker c.decode.result _ _
          (λ r a. (
            a.0,
            vouched g.T.Claims c.args.verdict.now c.args.token.now c.args.validation.now c.args.time a.0 a.1,
            a.2,
          )) said.accepted;
      exact = λ t w. said.exact t (passed g.T.Claims c.args.verdict.now c.args.token.now c.args.validation.now c.args.time t w);
      refused = said.refused;
    }
