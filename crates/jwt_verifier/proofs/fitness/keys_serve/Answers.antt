use Rattle.jwt_verifier.proofs.fitness.keys_serve.Goals as goal

pub returns-in-One-clause-ok : goal.returns-in-One-clause-ok
returns-in-One-clause-ok c = rw c.in-One.is c.key_serves.ensures.ok

pub returns-in-Set-clause-ok : goal.returns-in-Set-clause-ok
returns-in-Set-clause-ok c = rw c.in-Set.is c.set_serves.ensures.ok
