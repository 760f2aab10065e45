use Rattle.std.proofs.lemmas.Result.{IfOk-weaker, MatchResult-weaker}
use Rattle.jsonwebtoken.proofs.Giving.{elsewhere, passed, is_token, read_as_given}
use Rattle.jsonwebtoken.proofs.by_signature.encode_by_signature.Goals as goal

pub returns-clause-decided : goal.returns-clause-decided
returns-clause-decided g c =
    let said = rw c.in_ok-key.ensures.ok at c.encode.ensures.decided in
    record {
      issued = IfOk-weaker c.encode.result _ _ (λ x a. (
        a.0,
        elsewhere c.args.given.now c.args.header.now (g.T.Claims.written c.args.claims.now) a.0 a.1,
        is_token c.args.given.now c.args.header.now (g.T.Claims.written c.args.claims.now) a.0 _ a.2,
      )) said.accepted;
      exact = λ t w. MatchResult-weaker c.encode.result
          (said.exact t (passed c.args.given.now c.args.header.now (g.T.Claims.written c.args.claims.now) t w))
          (λ x i. is_token c.args.given.now c.args.header.now (g.T.Claims.written c.args.claims.now) t _ i) (λ e m. m);
      refused = said.refused;
    }

pub returns-clause-read_back : goal.returns-clause-read_back
returns-clause-read_back g c =
    let said = rw c.in_ok-key.ensures.ok at c.encode.ensures.read_back in
    IfOk-weaker c.encode.result _ _ (λ x h t w v is deep_h deep_v.
    read_as_given c.args.given.now c.args.header.now (g.T.Claims.written c.args.claims.now) v _
    (h t (passed c.args.given.now c.args.header.now (g.T.Claims.written c.args.claims.now) t w) v is deep_h deep_v)) said
