use Rattle.std.proofs.lemmas.Result.{IfOk-weaker}
use Rattle.jwt_command.proofs.keys.accept_items.Goals as goal

pub returns-in-Ok-clause-ok : goal.returns-in-Ok-clause-ok
returns-in-Ok-clause-ok c = IfOk-weaker c.accept_set.result _ _
    (λ l says. ((c.in-Ok.set, c.in-Ok.ensures.ok, says.0), says.1)) c.accept_set.ensures.ok
