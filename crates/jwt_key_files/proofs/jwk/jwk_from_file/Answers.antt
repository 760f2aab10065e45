use Rattle.jwt_key_files.proofs.JwksOfPem.{read_file, writable}
use Rattle.jwt_key_files.proofs.jwk.jwk_from_file.Goals as goal

pub jwk_of-requires : goal.jwk_of-requires
jwk_of-requires c = read_file _ _ c.in_ok-key.ensures.ok

pub returns-clause-writable : goal.returns-clause-writable
returns-clause-writable c = writable c.in_ok-key.key c.in_ok-jwk.jwk c.in_ok-jwk.ensures.ok
