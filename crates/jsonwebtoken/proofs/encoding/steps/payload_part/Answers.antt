use Rattle.std.proofs.Common.{Some, refl}
use Rattle.std.proofs.lemmas.Result.{IfOk-weaker}
use Rattle.jsonwebtoken.proofs.encoding.steps.payload_part.Goals as goal

pub returns-in-Some-clause-ok : goal.returns-in-Some-clause-ok
returns-in-Some-clause-ok g c =
    rw c.in-Some.is (IfOk-weaker c.claims_part.result _ _
    (λ t h. (Some h.0, ((h.0, refl, h.1.0, h.1.1.compact.no_float), h.1.1))) c.claims_part.ensures.ok)

pub returns-in-Some-clause-err : goal.returns-in-Some-clause-err
returns-in-Some-clause-err g c = rw c.in-Some.is c.claims_part.ensures.err
