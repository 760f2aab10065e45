use Rattle.jwt_key_files.proofs.Certificates.{not_held}
use Rattle.jwt_key_files.proofs.certificate.certificate_bytes.Goals as goal

pub returns-in_default-clause-ok : goal.returns-in_default-clause-ok
returns-in_default-clause-ok c = λ der h. c.in_default.ensures h.0 h.1.0

pub returns-in_default-2-clause-ok : goal.returns-in_default-2-clause-ok
returns-in_default-2-clause-ok c = not_held _ _ c.in-Some.ensures (rw c.in_default-2.is at c.in_ok-der.ensures.ok)

pub returns-clause-ok : goal.returns-clause-ok
returns-clause-ok c = (c.in-Some.block.now, (c.in-Some.ensures, rw c.in-Some-2.is at c.in_ok-der.ensures.ok))
