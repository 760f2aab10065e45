use Rattle.std.proofs.Common.{sym, subst}
use Rattle.jwt_c_calls.specs.BySignature.{IsAttachedIn}
use Rattle.jwt_c_calls.proofs.by_signature.attach_in.Goals as goal

pub returns-in_ok-attach-in-None-clause-ok : goal.returns-in_ok-attach-in-None-clause-ok
returns-in_ok-attach-in-None-clause-ok c =
    subst (λ held. IsAttachedIn held c.args.message.now c.args.signature.now c.in_ok-attach-in-None.field-0.token.items)
    (sym c.in-None.ensures.taken) (c.in_ok-attach-in-None.field-0.algorithm, c.in_ok-attach-in-None.ensures.ok)
