use Rattle.std.proofs.Common.{◌+◌, ◌-◌, ◌/◌, take, ap, ◌∙◌}
use Rattle.jwt_rsa.specs.Pss.{mgf1, mask_blocks}
use Rattle.jwt_rsa.proofs.pss.mgf1.Goals as goal

pub returns-clause-ok : goal.returns-clause-ok
unfolding mgf1
returns-clause-ok c =
    c.truncate.ensures.items ∙ ap (λ z. take c.args.len z) c.in_ok-mask.ensures.ok
    ∙ ap (λ z. take c.args.len (mask_blocks c.args.hash c.args.seed.now ((c.args.len + z - 1) / z)))
    c.hash_len-size.ensures.exact
