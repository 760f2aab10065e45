use Rattle.std.proofs.Common.{◌≡◌, drop, find}
use Rattle.jwt_keys.specs.Jwk.{has_id}
use Rattle.jwt_keys.proofs.jwk_set.first_of.Given as goal

abbrev pub invariant-loop-key : goal.invariant-loop-key
invariant-loop-key l = find (has_id l.kid) l.keys ≡ find (has_id l.kid) (drop l.key-index l.keys)
