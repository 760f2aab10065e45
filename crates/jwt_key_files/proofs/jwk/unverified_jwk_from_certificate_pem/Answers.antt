use Rattle.jwt_key_files.proofs.JwksOfPem.{read_certified, writable}
use Rattle.jwt_key_files.proofs.jwk.unverified_jwk_from_certificate_pem.Goals as goal

pub jwk_of-requires : goal.jwk_of-requires
jwk_of-requires c = read_certified _ _ c.in_ok-key.ensures.ok

pub returns-clause-writable : goal.returns-clause-writable
returns-clause-writable c = writable c.in_ok-key.key c.in_ok-jwk.jwk c.in_ok-jwk.ensures.ok
