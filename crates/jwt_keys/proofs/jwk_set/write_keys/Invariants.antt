use Rattle.std.proofs.Common.{◌≡◌, ◌++◌, drop, map, option_map}
use Rattle.serde_json.specs.View.{view}
use Rattle.jwt_keys.specs.JwkSet.{key_values}
use Rattle.jwt_keys.proofs.jwk_set.write_keys.Given as goal

-- the keys that are left to write follow those that were written
abbrev pub invariant-loop-key : goal.invariant-loop-key
invariant-loop-key l = key_values l.keys ≡ option_map (λ more. map view l.values.items ++ more)
    (key_values (drop l.key-index l.keys))
