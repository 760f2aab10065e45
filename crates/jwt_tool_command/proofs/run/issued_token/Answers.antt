use Rattle.std.proofs.Common.{◌∙◌, ap}
use Rattle.std.proofs.lemmas.Result.{IfOk-weaker, IfErr-weaker}
use Rattle.jsonwebtoken.proofs.Exits.{or_memory}
use Rattle.jwt_tool_command.proofs.Calls.{token_issued, token_failed, secret_key}
use Rattle.jwt_tool_command.proofs.run.issued_token.Goals as goal

pub returns-clause-err : goal.returns-clause-err
returns-clause-err c =
    IfErr-weaker c.encode-token.result _ _
    (λ e f. or_memory (token_failed _ c.args.algorithm c.args.secret.now _ _ _ _ c.in_ok-header.ensures.ok
    (c.in_ok-key.ensures.ok ∙ ap secret_key c.as_bytes.ensures.value) c.in_ok-claims.ensures.ok) f)
    c.encode-token.ensures.decided.refused

pub returns-clause-ok : goal.returns-clause-ok
returns-clause-ok c =
    IfOk-weaker c.encode-token.result _ _
    (λ x i. token_issued _ c.args.algorithm c.args.secret.now _ _ _ _ c.in_ok-header.ensures.ok
    (c.in_ok-key.ensures.ok ∙ ap secret_key c.as_bytes.ensures.value) c.in_ok-claims.ensures.ok i)
    c.encode-token.ensures.decided.accepted
