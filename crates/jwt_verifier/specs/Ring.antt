-- The entries of a key ring, by the keys that it was made of.
use Rattle.std.specs.Prelude.{◌≡◌, ⊤, ◌<◌, List, Option, Some, None, length, get_or}
use Rattle.jwt_keys.specs.Key.{Key}
use Rattle.jwt_keys.specs.KeyOfJwk.{IsKeyOf}
use Rattle.jwt_keys.specs.declared.jwk.Jwk.{Jwk}
use Rattle.jwt_verifier.specs.PreparedOf.{IsPreparedOf}
use Rattle.jwt_verifier.specs.declared.entry.Entry.{Entry}

-- the entry has the place of this JSON Web Key in the set, and the key that it stands for, if it has one, with what is
-- prepared of it
pub record IsEntryOf (keys : List Jwk) (jwk : Jwk) (entry : Entry) : Type 0 where
  pub within : entry.at < length keys
  pub is : (d : Jwk) → get_or keys entry.at d ≡ jwk
  pub key : (k : Key) → entry.key ≡ Some k → IsKeyOf jwk.algorithm k
  pub prepared : (k : Key) → entry.key ≡ Some k → IsPreparedOf k entry.prepared

-- the same, of a key that is found
abbrev pub IsFoundEntry : List Jwk → Option Jwk → Option Entry → Type 0
IsFoundEntry keys None None = ⊤
IsFoundEntry keys None (Some e) = ⊥
IsFoundEntry keys (Some j) None = ⊥
IsFoundEntry keys (Some j) (Some e) = IsEntryOf keys j e
