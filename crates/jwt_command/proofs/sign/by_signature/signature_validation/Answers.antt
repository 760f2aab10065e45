use Rattle.std.proofs.Common.{◌∙◌, ap, false}
use Rattle.jwt_validation.specs.Options.{Options, no_texts}
use Rattle.jwt_command.proofs.sign.by_signature.signature_validation.Goals as goal

pub returns : goal.returns
returns c =
    ap {A = Options} {B = Options} (λ o. record o { checks_exp = false; checks_aud = false })
    (c.in-Ok-set_required_spec_claims.ensures.ok
    ∙ ap {A = Options} {B = Options} (λ o. record o { required = no_texts }) c.in-Ok.ensures.ok)
