use Rattle.std.proofs.Common.{◌≡◌, ◌++◌, take, drop, map}
use Rattle.jwt_crypto.specs.HmacPrepared.{prepared_key, prepared_keys, cleared_key}
use Rattle.jwt_crypto.proofs.prepared.PreparedHmac.zeroize.Given as goal

abbrev pub invariant-loop-key : goal.invariant-loop-key
invariant-loop-key l =
    map prepared_key l.key-items ≡ map cleared_key (take l.key-index (prepared_keys l.fn.self))
    ++ drop l.key-index (prepared_keys l.fn.self)
