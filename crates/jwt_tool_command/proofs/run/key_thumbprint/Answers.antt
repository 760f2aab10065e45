use Rattle.std.proofs.lemmas.Result.{IfOk-weaker, IfErr-weaker, err_from_is_err_and}
use Rattle.jwt_crypto.specs.Hmac.{hash_bytes}
use Rattle.jwt_crypto.specs.HmacKeys.{hash_named}
use Rattle.jwt_keys.specs.Thumbprint.{thumb_text}
use Rattle.jwt_tool_command.proofs.Thumbprints.{text_under, without_key, without_text}
use Rattle.jwt_tool_command.proofs.run.key_thumbprint.Goals as goal

pub returns-in_err-key-clause-err : goal.returns-in_err-key-clause-err
returns-in_err-key-clause-err c =
    let p = err_from_is_err_and c.from_residual.result c.from_residual.ensures.1 in
    rw (p.1, p.2) (without_key c.args.input.now _ c.in_err-key.ensures.err)

pub returns-clause-err : goal.returns-clause-err
returns-clause-err c =
    IfErr-weaker c.thumbprint-text.result _ _ (λ e f. without_text (hash_bytes (hash_named c.args.hash)) c.args.input.now
    c.in_ok-key.key e c.in_ok-key.ensures.ok f) c.thumbprint-text.ensures.err

pub returns-clause-ok : goal.returns-clause-ok
returns-clause-ok c =
    IfOk-weaker c.thumbprint-text.result _ _
    (λ x t. (
      c.in_ok-key.key,
      (
        c.in_ok-key.ensures.ok,
        text_under (hash_bytes (hash_named c.args.hash))
            (thumb_text c.in_ok-key.key) _ t.0 t.1.0 t.1.1,
      ),
    )) c.thumbprint-text.ensures.ok
