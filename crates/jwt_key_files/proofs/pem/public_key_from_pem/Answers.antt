use Rattle.jwt_key_files.proofs.PemKeys.{one_pem_key}
use Rattle.jwt_key_files.proofs.pem.public_key_from_pem.Goals as goal

pub returns-clause-only : goal.returns-clause-only
returns-clause-only c = one_pem_key _ _ _ _ c.in-Some.ensures c.in_ok-key.ensures.ok.1
