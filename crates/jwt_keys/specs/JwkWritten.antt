-- A key, written and read again: its normal form.
use Rattle.std.specs.Prelude.{◌≡◌, ◌↔◌, Some}
use Rattle.serde_json.specs.Data.{Data}
use Rattle.jwt_params.specs.Common.{normal_common}
use Rattle.jwt_params.specs.Parameters.{normal_parameters}
use Rattle.jwt_keys.specs.Jwk.{ReadsKey, key_value}
use Rattle.jwt_keys.specs.declared.jwk.Jwk.{Jwk}

-- a free string that is a known spelling becomes the known value, and an `Other` with the members
-- of a type becomes that type
abbrev pub normal_key : Jwk → Jwk
normal_key k = record { common = normal_common k.common; algorithm = normal_parameters k.algorithm }

-- its own normal form, and one that can be written
pub record IsNormal (k : Jwk) : Type 0 where
  pub itself : normal_key k ≡ k
  pub written : (d : Data) × (key_value k ≡ Some d)

-- A written value is read as its normal form alone; a normal form is its own; and two normal forms
-- are the same if they are written alike.
pub record HasNormalForm (k : Jwk) : Type 0 where
  pub reads_back : (d : Data) → key_value k ≡ Some d → (l : Jwk) → ReadsKey d l ↔ (l ≡ normal_key k)
  pub once : normal_key (normal_key k) ≡ normal_key k
  pub told_apart : IsNormal k → (l : Jwk) → IsNormal l → (key_value k ≡ key_value l) ↔ (k ≡ l)
