use Rattle.std.proofs.Common.{subst}
use Rattle.jwt_keys.proofs.OneKey.{one_key}
use Rattle.jwt_secrets.specs.Blank.{IsBlankKey}
use Rattle.jwt_secrets.proofs.is_blank_jwk.Goals as goal

pub returns-in-Ok-clause-ok : goal.returns-in-Ok-clause-ok
returns-in-Ok-clause-ok c = (
  λ t. (_, c.in-Ok.ensures.ok, c.is_blank_key.ensures.0 t),
  λ b. c.is_blank_key.ensures.1 (subst IsBlankKey (one_key c.args.jwk.now.algorithm _ _ b.1 c.in-Ok.ensures.ok) b.2),
)
