use Rattle.jsonwebtoken.proofs.UniqueParts.{no_dot, one_dot}
use Rattle.jsonwebtoken.proofs.decoding.steps.find_parts.Goals as goal

pub returns-in_err-message-clause-none : goal.returns-in_err-message-clause-none
returns-in_err-message-clause-none c = rw c.from_residual.ensures (λ p. no_dot _ p c.in_err-message.ensures.none)

pub returns-in_err-header-clause-none : goal.returns-in_err-header-clause-none
returns-in_err-header-clause-none c = rw c.from_residual-in_err-header.ensures
    (λ p. one_dot _ _ _ p c.in_ok-message.ensures.some.0 c.in_ok-message.ensures.some.1 c.in_err-header.ensures.none)
