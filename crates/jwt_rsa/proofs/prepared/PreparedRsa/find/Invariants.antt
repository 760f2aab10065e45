use Rattle.std.proofs.Common.{ℕ, ◌≢◌, ◌<◌, get_or}
use Rattle.jwt_rsa.specs.RsaPrepared.{prepared_key}
use Rattle.jwt_rsa.specs.declared.kept.PreparedKey.{PreparedKey}
use Rattle.jwt_rsa.proofs.prepared.PreparedRsa.find.Given as goal

-- no key before this place
abbrev pub invariant-loop-key : goal.invariant-loop-key
invariant-loop-key l =
    (j : ℕ) (d : PreparedKey) → j < l.key-index → prepared_key (get_or l.self.keys.items j d) ≢ (l.n, l.e)
