use Rattle.std.proofs.Common.{ℕ, ◌≢◌, ◌<◌, get_or}
use Rattle.jwt_crypto.specs.HmacKeys.{algorithm_for}
use Rattle.jwt_crypto.specs.HmacPrepared.{prepared_key}
use Rattle.jwt_crypto.specs.declared.prepared_hashers.PreparedKey.{PreparedKey}
use Rattle.jwt_crypto.proofs.prepared.PreparedHmac.find.Given as goal

-- no key before this place
abbrev pub invariant-loop-key : goal.invariant-loop-key
invariant-loop-key l =
    (j : ℕ) (d : PreparedKey) → j < l.key-index → prepared_key (get_or l.self.keys.items j d) ≢ (algorithm_for l.hash, l.secret)
