use Rattle.jwt_key_files.proofs.Certificates.{one_certified}
use Rattle.jwt_key_files.proofs.certificate.unverified_key_from_certificate.Goals as goal

pub returns-clause-only : goal.returns-clause-only
returns-clause-only c = λ k p. one_certified _ k _ p (c.in-Some.info.now, (c.in-Some.ensures, c.in_ok-key.ensures.ok))
