use Rattle.jwt_key_files.proofs.Files.{of_der, refused_der}
use Rattle.jwt_key_files.proofs.jwk.file_key.Goals as goal

pub returns-in-None-clause-ok : goal.returns-in-None-clause-ok
returns-in-None-clause-ok c = of_der _ c.in-None.ensures c.public_key_from_der.result c.public_key_from_der.ensures.ok

pub returns-in-None-clause-err : goal.returns-in-None-clause-err
returns-in-None-clause-err c = refused_der _ c.in-None.ensures c.public_key_from_der.result c.public_key_from_der.ensures.err
