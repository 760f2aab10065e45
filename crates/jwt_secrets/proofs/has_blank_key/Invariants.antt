use Rattle.std.proofs.Common.{take}
use Rattle.std.specs.List.{All}
use Rattle.jwt_secrets.specs.Blank.{IsBlankJwk}
use Rattle.jwt_secrets.proofs.has_blank_key.Given as goal

abbrev pub invariant-loop-jwk : goal.invariant-loop-jwk
invariant-loop-jwk l = All (λ jwk. ¬ IsBlankJwk jwk) (take l.jwk-index l.set.keys.items)
