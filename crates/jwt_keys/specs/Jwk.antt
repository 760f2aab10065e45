-- How a key is read from a JSON value, and how it is written (RFC 7517 section 4).
use Rattle.std.specs.Prelude.{◌≡◌, ℕ, List, Bool, false, Option, Some, None, option_map, option_and_then, is_some}
use Rattle.std.specs.Prelude.{if◌then◌else◌}
use Rattle.std.specs.Option.{option_map_or}
use Rattle.std.specs.Str.{bytes_eq}
use Rattle.serde_json.specs.Data.{Data, object, Members}
use Rattle.serde_json.specs.Find.{as_object}
use Rattle.jwt_base.specs.Algorithm.{algorithm_of}
use Rattle.jwt_base.specs.Members.{without}
use Rattle.jwt_params.specs.Common.{common_names, ReadsCommon, with_common}
use Rattle.jwt_params.specs.Parameters.{parameters_from, parameters_members, has_common, marked_parameters}
use Rattle.jwt_params.specs.declared.parameters.AlgorithmParameters.{AlgorithmParameters}
use Rattle.jwt_keys.specs.declared.jwk.Jwk.{Jwk}

-- the parameters among the members that are not common (RFC 7517 section 4)
abbrev pub own_parameters_from : Data → Option AlgorithmParameters
own_parameters_from d =
    option_and_then (λ ms. parameters_from (object (without common_names ms))) (as_object d)

-- the value is an object, the common names give the common part, and the other members have the
-- type (RFC 7517 section 4)
pub record ReadsKey (d : Data) (k : Jwk) : Type 0 where
  pub common : ReadsCommon d k.common
  pub algorithm : own_parameters_from d ≡ Some k.algorithm

-- all members; None if an `Other` holds a common name or a float (RFC 7517 section 4)
abbrev pub key_members : Jwk → Option Members
key_members k =
    if has_common k.algorithm then None
    else option_map (with_common k.common) (parameters_members k.algorithm)

-- the object of these members (RFC 7517 section 4)
abbrev pub key_value : Jwk → Option Data
key_value k = option_map object (key_members k)

-- `alg` is present, and it is an algorithm that signs tokens (RFC 7517 section 4.4)
abbrev pub is_supported_key : Jwk → Bool
is_supported_key k = is_some (option_and_then algorithm_of k.common.key_algorithm)

-- `kid` is present, and it is this string (RFC 7517 section 4.5)
abbrev pub has_id : List ℕ → Jwk → Bool
has_id kid k = option_map_or (λ id. bytes_eq id kid) k.common.key_id false

-- the key with one mark in place of each float
abbrev pub marked_key : Jwk → Jwk
marked_key k = record k { algorithm = marked_parameters k.algorithm }
