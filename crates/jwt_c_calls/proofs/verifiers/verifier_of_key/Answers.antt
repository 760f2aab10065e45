use Rattle.std.proofs.Common.{refl, subst}
use Rattle.jwt_c_calls.specs.Verifiers.{HasAgreeing}
use Rattle.jwt_c_calls.proofs.Made.{not_of_key, of_key}
use Rattle.jwt_c_calls.proofs.verifiers.verifier_of_key.Goals as goal

agree : (c : goal.After-made_with) → HasAgreeing c.args.jwk.now c.args.validation.algorithms.items c.in-Ok.left.items
agree c = subst (λ l. HasAgreeing c.args.jwk.now l c.in-Ok.left.items) c.as_slice.ensures.value c.in-Ok.ensures.algorithms

pub returns-in-Ok-clause-ok : goal.returns-in-Ok-clause-ok
returns-in-Ok-clause-ok c = of_key c.args.jwk.now c.args.validation (record c.args.validation { algorithms = c.in-Ok.left })
    c.args.limits c.in-Ok.key c.in-Ok.ensures.key (agree c) refl c.made_with.result c.made_with.ensures.ok

pub returns-in-Ok-clause-err : goal.returns-in-Ok-clause-err
returns-in-Ok-clause-err c = not_of_key c.args.jwk.now c.args.validation (record c.args.validation { algorithms = c.in-Ok.left })
    c.args.limits c.in-Ok.key c.in-Ok.ensures.key (agree c) refl c.made_with.result c.made_with.ensures.err
