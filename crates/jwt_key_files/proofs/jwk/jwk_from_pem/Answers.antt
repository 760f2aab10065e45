use Rattle.jwt_key_files.proofs.JwksOfPem.{read_pem, stands_for, writable}
use Rattle.jwt_key_files.proofs.jwk.jwk_from_pem.Goals as goal

pub jwk_of-requires : goal.jwk_of-requires
jwk_of-requires c = read_pem _ _ c.in_ok-key.ensures.ok

pub returns-clause-way_back : goal.returns-clause-way_back
returns-clause-way_back c = λ key h. stands_for c.in_ok-jwk.jwk _ key (c.in_ok-key.ensures.only key h)
    c.in_ok-jwk.ensures.way_back

pub returns-clause-writable : goal.returns-clause-writable
returns-clause-writable c = writable c.in_ok-key.key c.in_ok-jwk.jwk c.in_ok-jwk.ensures.ok
