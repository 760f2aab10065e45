use Rattle.std.proofs.lemmas.Result.{IfOk-weaker}
use Rattle.jwt_command.proofs.keys.load_set.Goals as goal

pub returns-in-Ok-clause-ok : goal.returns-in-Ok-clause-ok
returns-in-Ok-clause-ok c = IfOk-weaker c.accept_items.result _ _
    (λ l says. (c.in-Ok.items.items.items, c.in-Ok.ensures.ok, says.0, says.1)) c.accept_items.ensures.ok
