use Rattle.std.proofs.Common.{IsSome, rules, subst}
use Rattle.jwt_keys.proofs.OneKey.{one_key}
use Rattle.jwt_verifier.specs.Fitness.{ServesAs}
use Rattle.jwt_verifier.proofs.fitness.jwk_serves.Goals as goal

pub returns-in_ok-serves-in-Ok-clause-ok : goal.returns-in_ok-serves-in-Ok-clause-ok
returns-in_ok-serves-in-Ok-clause-ok c =
    let named : IsSome c.args.jwk.now.common.key_id = search rules in (
      λ t. (named, (_, c.in-Ok.ensures.ok, c.in_ok-serves-in-Ok.ensures.ok.0 t)),
      λ s. c.in_ok-serves-in-Ok.ensures.ok.1
          (subst (ServesAs c.args.algorithms.now c.args.jwk.now) (one_key c.args.jwk.now.algorithm _ _ s.1.1 c.in-Ok.ensures.ok) s.1.2),
    )
