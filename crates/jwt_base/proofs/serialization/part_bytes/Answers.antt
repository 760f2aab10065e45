use Rattle.std.proofs.Common.{◌∙◌}
use Rattle.std.proofs.lemmas.Result.{err_from_is_err_and}
use Rattle.jwt_base.proofs.Parts.{strict, encode_of-url, part_refused}
use Rattle.jwt_base.proofs.serialization.part_bytes.Goals as goal

pub returns-in_err-decode-clause-err : goal.returns-in_err-decode-clause-err
returns-in_err-decode-clause-err c =
    let p = err_from_is_err_and c.from_residual.result c.from_residual.ensures.1 in
    rw p.1 (part_refused _ _ _ p.2 c.in_err-decode.ensures.err (λ b bytes. (c.in_err-decode.ensures.strict strict b bytes).1))

pub returns-clause-ok : goal.returns-clause-ok
returns-clause-ok c = (c.in_ok-decode.ensures.bytes, c.in_ok-decode.ensures.exact strict ∙ encode_of-url _)
