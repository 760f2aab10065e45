use Rattle.std.proofs.Common.{subst, codes}
use Rattle.jwt_key_files.proofs.PemKeys.{one_first}
use Rattle.jwt_key_files.specs.PemKeys.{IsLabelled}
use Rattle.jwt_key_files.proofs.certificate.is_certificate.Goals as goal

pub returns-in_default : goal.returns-in_default
returns-in_default c = (λ f. cc, λ h. absurd (c.in_default.ensures h.0 h.1.0))

pub returns : goal.returns
returns c = (
  λ yes. (_, (c.in-Some.ensures, c.is_labelled.ensures.0 yes)),
  λ h. c.is_labelled.ensures.1 (subst (IsLabelled (codes "CERTIFICATE")) (one_first _ _ _ h.1.0 c.in-Some.ensures) h.1.1),
)
