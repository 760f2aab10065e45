use Rattle.jwt_standard.proofs.verifier.StandardVerifierJwtVerifier.verify.Goals as goal

pub returns-in-Ed-clause-verdict : goal.returns-in-Ed-clause-verdict
returns-in-Ed-clause-verdict c = rw c.in-Ed.is c.verify-in-Ed.ensures.verdict
