use Rattle.jwt_key_files.proofs.Certificates.{front_element}
use Rattle.jwt_key_files.proofs.certificate.first_element.Goals as goal

pub returns : goal.returns
returns c = front_element _ _ _ _ _ _ c.in-Some.ensures c.split_at.ensures.front c.split_at.ensures.back
