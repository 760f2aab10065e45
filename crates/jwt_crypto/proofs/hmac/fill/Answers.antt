use Rattle.std.proofs.Common.{◌∙◌, ◌++◌, ap, drop, length, replicate}
use Rattle.std.proofs.lemmas.List.{drop-replicate}
use Rattle.jwt_crypto.proofs.hmac.fill.Goals as goal

pub returns : goal.returns
returns c =
    let n = length c.args.bytes.now in
    ap (λ front. front ++ drop n (replicate 128 0)) c.copy_from_slice.ensures.after
    ∙ ap (λ rest. c.args.bytes.now ++ rest) (drop-replicate n 128 0)
