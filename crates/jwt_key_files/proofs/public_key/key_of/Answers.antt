use Rattle.jwt_key_files.proofs.public_key.key_of.Goals as goal

pub returns-in-Rsa-clause-err : goal.returns-in-Rsa-clause-err
returns-in-Rsa-clause-err c = rw c.in-Rsa.is c.rsa_key.ensures.err
