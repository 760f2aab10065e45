use Rattle.std.proofs.lemmas.Result.{err_from_is_err_and}
use Rattle.base64.specs.Engines.{url_safe}
use Rattle.jwt_base.proofs.PaddedTexts.{url_strict, text_refused}
use Rattle.jwt_base.proofs.serialization.url_bytes.Goals as goal

pub returns-in_err-decode-clause-err : goal.returns-in_err-decode-clause-err
returns-in_err-decode-clause-err c =
    let p = err_from_is_err_and c.from_residual.result c.from_residual.ensures.1 in
    rw p.1 (text_refused url_safe _ _ _ p.2 c.in_err-decode.ensures.err
    (λ b bytes. (c.in_err-decode.ensures.strict url_strict b bytes).1))

pub returns-clause-ok : goal.returns-clause-ok
returns-clause-ok c = (c.in_ok-decode.ensures.bytes, c.in_ok-decode.ensures.exact url_strict)
