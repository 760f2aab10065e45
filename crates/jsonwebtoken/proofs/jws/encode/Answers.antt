use Rattle.std.proofs.Common.{refl}
use Rattle.std.proofs.lemmas.Result.{IfOk-weaker, MatchResult-weaker}
use Rattle.jsonwebtoken.specs.Issue.{jws_encode_order}
use Rattle.jsonwebtoken.specs.IssueCalls.{encoding_parts}
use Rattle.jsonwebtoken.proofs.Issued.{issue_decides, one_written}
use Rattle.jsonwebtoken.proofs.jws.encode.Goals as goal

pub returns-clause-decided : goal.returns-clause-decided
returns-clause-decided g c =
    let issue = encoding_parts g.P.CryptoProvider g.T.Claims c.args.provider.now c.args.header.now c.args.claims
    c.args.key.now in
    let said = issue_decides issue jws_encode_order refl _ c.encode_by_steps.result c.encode_by_steps.ensures refl in
    record {
      accepted = IfOk-weaker c.encode_by_steps.result _ _ (λ x a. (a.0, a.1, a.2.0)) said.accepted;
      exact = λ t p. MatchResult-weaker c.encode_by_steps.result (said.exact t p) (λ x a. a.0) (λ e m. m);
      refused = said.refused;
    }

pub returns-clause-read_back : goal.returns-clause-read_back
returns-clause-read_back g c =
    let issue = encoding_parts g.P.CryptoProvider g.T.Claims c.args.provider.now c.args.header.now c.args.claims
    c.args.key.now in
    IfOk-weaker c.encode_by_steps.result _ _ (λ x a t p. rw (one_written issue jws_encode_order t a.0 refl p a.1) a.2.1)
    (issue_decides issue jws_encode_order refl _ c.encode_by_steps.result c.encode_by_steps.ensures refl).accepted
