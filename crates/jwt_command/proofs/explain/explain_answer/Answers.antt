use Rattle.std.proofs.Common.{inl, inr}
use Rattle.std.proofs.lemmas.Result.{IfOk-weaker}
use Rattle.jwt_command.proofs.explain.explain_answer.Goals as goal

pub returns-in-None : goal.returns-in-None
returns-in-None c =
    let says = c.in_ok-reason.ensures.ok in
    let accepted = rw c.in-None.is at says.2 in
    IfOk-weaker c.explain_acceptance.result _ _ (λ a has. (says.0, says.1, inl (accepted.0, accepted.1, has)))
    c.explain_acceptance.ensures

pub returns-in-Some : goal.returns-in-Some
returns-in-Some c =
    let says = c.in_ok-reason.ensures.ok in
    let refused = rw c.in-Some.is at says.2 in
    IfOk-weaker c.explain_refusal.result _ _ (λ a has. (says.0, says.1, inr (c.in-Some.reason, refused, has)))
    c.explain_refusal.ensures
