use Rattle.std.proofs.Common.{◌≡◌}
use Rattle.std.proofs.lemmas.Result.{IfOk-weaker}
use Rattle.jwt_c_calls.proofs.answers.payload_shown.Goals as goal

pub returns-in-Ok : goal.returns-in-Ok
returns-in-Ok c = IfOk-weaker c.show.result _ _ (λ s h t p json.
    let same : t.payload_bytes ≡ c.in-Ok.bytes.items = c.in-Ok.ensures.exact t p in rw same (h (rw same at json))) c.show.ensures
