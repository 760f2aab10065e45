use Rattle.jwt_key_files.proofs.PemKeys.{not_labelled}
use Rattle.jwt_key_files.proofs.pem.is_labelled.Goals as goal

pub returns-in_default-after : goal.returns-in_default-after
returns-in_default-after c = (λ f. cc, λ x. absurd (not_labelled _ _ _ c.in-Some.ensures c.in_default-after.ensures x))
