use Rattle.std.proofs.Common.{ℕ, ◌-◌, length, take, ap, ◌∙◌}
use Rattle.jwt_rsa.specs.Pss.{data_block, em_digest, low_bits, xored, mgf1}
use Rattle.jwt_rsa.proofs.pss.data_block.Goals as goal

pub returns-clause-ok : goal.returns-clause-ok
unfolding data_block
returns-clause-ok c =
    let h = c.args.hash in
    let kept = c.args.kept in
    let em = c.args.em.now in
    let len : ℕ = length em - c.hash_len.result - 1 in
    c.with_low_bits.ensures
    ∙ ap (λ z. low_bits kept z) (c.in_ok-block.ensures.ok ∙ ap (λ z. xored (take len em) z)
    (c.deref.ensures.value ∙ c.in_ok-mask.ensures.ok ∙ ap (λ z. mgf1 h z len) c.em_digest.ensures))
    ∙ ap (λ z. low_bits kept (xored (take (length em - z - 1) em) (mgf1 h (em_digest h em) (length em - z - 1))))
    c.hash_len.ensures.exact
