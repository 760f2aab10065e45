use Rattle.jwt_verifier.proofs.fitness.have_blank.Goals as goal

pub returns-in-Set-clause-ok : goal.returns-in-Set-clause-ok
returns-in-Set-clause-ok c = rw c.in-Set.is c.has_blank_key.ensures.ok
