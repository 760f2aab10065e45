use Rattle.jwt_base.specs.Algorithm.{family_of}
use Rattle.jwt_verifier.proofs.CurveLemmas.{accepts_alike, made_alike}
use Rattle.jwt_verifier.proofs.entry.curve_verifier.Goals as goal

pub returns-in-Some-clause-made : goal.returns-in-Some-clause-made
returns-in-Some-clause-made c = made_alike (family_of c.args.algorithm) c.args.algorithm c.args.key.now c.in-Some.ensures.made

pub returns-in-Some-clause-accepts : goal.returns-in-Some-clause-accepts
returns-in-Some-clause-accepts c m s =
    let by = c.in-Some.ensures.accepts m s in
    let alike = accepts_alike (family_of c.args.algorithm) c.args.algorithm c.args.key.now m s c.in-Some.ensures.made in
    (λ h. alike.0 (by.0 h), λ h. by.1 (alike.1 h))
