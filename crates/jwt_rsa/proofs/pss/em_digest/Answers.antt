use Rattle.std.proofs.Common.{◌≡◌, ℕ, ◌+◌, ◌-◌, length, take, drop, ap, ◌∙◌, arith}
use Rattle.jwt_rsa.proofs.pss.em_digest.Goals as goal

pub returns : goal.returns
returns c =
    let em = c.args.em.now in
    let size : ℕ = c.hash_len-size.result in
    let start : ℕ = length em - size - 1 in
    let same : start + size - start ≡ size = omega arith in
    ap (λ z. take z (drop start em)) same ∙ ap (λ z. take z (drop (length em - z - 1) em)) c.hash_len-size.ensures.exact
