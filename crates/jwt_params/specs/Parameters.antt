-- The types of keys (RFC 7518 section 6, RFC 8037 section 2): how each is read from a JSON value,
-- and how it is written.
use Rattle.std.specs.Prelude.{ℕ, List, Bool, false, Option, Some, None, option_map, option_and_then, unwrap_or, codes}
use Rattle.std.specs.Prelude.{if◌then◌else◌}
use Rattle.std.specs.Option.{option_or, option_map_or}
use Rattle.std.specs.Str.{bytes_eq}
use Rattle.serde_json.specs.Data.{Data, string, object, Members, no_members, put}
use Rattle.serde_json.specs.Find.{get, as_object}
use Rattle.serde_json.specs.Written.{members_have_float}
use Rattle.jwt_base.specs.DataEq.{members_marked}
use Rattle.jwt_base.specs.Members.{has_named, text_at}
use Rattle.jwt_params.specs.Common.{common_names}
use Rattle.jwt_params.specs.Curve.{curve_name, curve_from}
use Rattle.jwt_params.specs.KeyType.{elliptic_type_name, rsa_type_name, octet_type_name, octet_pair_type_name}
use Rattle.jwt_params.specs.declared.curves.EllipticCurve.{EllipticCurve}
use Rattle.jwt_params.specs.declared.key_types.EllipticCurveKeyType.TheVariants.{EC}
use Rattle.jwt_params.specs.declared.key_types.RSAKeyType.TheVariants.{RSA}
use Rattle.jwt_params.specs.declared.key_types.OctetKeyType.TheVariants.{Octet}
use Rattle.jwt_params.specs.declared.key_types.OctetKeyPairType.TheVariants.{OctetKeyPair}
use Rattle.jwt_params.specs.declared.elliptic.EllipticCurveKeyParameters.{EllipticCurveKeyParameters}
use Rattle.jwt_params.specs.declared.rsa.RSAKeyParameters.{RSAKeyParameters}
use Rattle.jwt_params.specs.declared.octet.OctetKeyParameters.{OctetKeyParameters}
use Rattle.jwt_params.specs.declared.octet_pair.OctetKeyPairParameters.{OctetKeyPairParameters}
use Rattle.jwt_params.specs.declared.other.OtherKeyParameters.{OtherKeyParameters}
use Rattle.jwt_params.specs.declared.parameters.AlgorithmParameters.{AlgorithmParameters}
use Rattle.jwt_params.specs.declared.parameters.AlgorithmParameters.TheVariants as types

-- `kty` is this string (RFC 7517 section 4.1)
abbrev pub is_type : List ℕ → Data → Bool
is_type name d = option_map_or (λ s. bytes_eq s name) (text_at (codes "kty") d) false

-- the curve that `crv` names (RFC 7518 section 6.2.1.1, RFC 8037 section 2)
abbrev pub curve_at : Data → Option EllipticCurve
curve_at d = option_and_then curve_from (get (codes "crv") d)

-- an `EC` key with `crv`, `x` and `y` (RFC 7518 section 6.2.1)
abbrev pub elliptic_from : Data → Option EllipticCurveKeyParameters
elliptic_from d =
    if is_type (codes "EC") d then option_and_then (λ curve. option_and_then (λ x. option_map
    (λ y. record { key_type = EC; curve = curve; x = x; y = y })
    (text_at (codes "y") d)) (text_at (codes "x") d)) (curve_at d)
    else None

-- an `RSA` key with `n` and `e` (RFC 7518 section 6.3.1)
abbrev pub rsa_from : Data → Option RSAKeyParameters
rsa_from d =
    if is_type (codes "RSA") d then option_and_then (λ n. option_map
    (λ e. record { key_type = RSA; n = n; e = e })
    (text_at (codes "e") d)) (text_at (codes "n") d)
    else None

-- an `oct` key with `k` (RFC 7518 section 6.4.1)
abbrev pub octet_from : Data → Option OctetKeyParameters
octet_from d =
    if is_type (codes "oct") d then option_map
    (λ value. record { key_type = Octet; value = value }) (text_at (codes "k") d)
    else None

-- an `OKP` key with `crv` and `x` (RFC 8037 section 2)
abbrev pub pair_from : Data → Option OctetKeyPairParameters
pair_from d =
    if is_type (codes "OKP") d then option_and_then (λ curve. option_map
    (λ x. record { key_type = OctetKeyPair; curve = curve; x = x })
    (text_at (codes "x") d)) (curve_at d)
    else None

-- all members, if no float is in them
abbrev pub other_from : Data → Option OtherKeyParameters
other_from d = option_and_then
    (λ ms. if members_have_float ms then None else Some (record { fields = ms })) (as_object d)

-- the first of the types with parameters of their own (RFC 7518 section 6, RFC 8037 section 2)
abbrev pub named_from : Data → Option AlgorithmParameters
named_from d =
    option_or (option_map types.EllipticCurve (elliptic_from d))
    (option_or (option_map types.RSA (rsa_from d))
    (option_or (option_map types.OctetKey (octet_from d))
    (option_map types.OctetKeyPair (pair_from d))))

-- the first of the five (RFC 7518 section 6, RFC 8037 section 2)
abbrev pub parameters_from : Data → Option AlgorithmParameters
parameters_from d = option_or (named_from d) (option_map types.Other (other_from d))

-- the members of an `EC` key (RFC 7518 section 6.2.1)
abbrev pub elliptic_members : EllipticCurveKeyParameters → Members
elliptic_members p = put (codes "y") (string p.y)
    (put (codes "x") (string p.x)
    (put (codes "crv") (string (curve_name p.curve))
    (put (codes "kty") (string (elliptic_type_name p.key_type)) no_members)))

-- the members of an `RSA` key (RFC 7518 section 6.3.1)
abbrev pub rsa_members : RSAKeyParameters → Members
rsa_members p = put (codes "e") (string p.e)
    (put (codes "n") (string p.n)
    (put (codes "kty") (string (rsa_type_name p.key_type)) no_members))

-- the members of an `oct` key (RFC 7518 section 6.4.1)
abbrev pub octet_members : OctetKeyParameters → Members
octet_members p = put (codes "k") (string p.value)
    (put (codes "kty") (string (octet_type_name p.key_type)) no_members)

-- the members of an `OKP` key (RFC 8037 section 2)
abbrev pub pair_members : OctetKeyPairParameters → Members
pair_members p = put (codes "x") (string p.x)
    (put (codes "crv") (string (curve_name p.curve))
    (put (codes "kty") (string (octet_pair_type_name p.key_type)) no_members))

-- whether one of the members of an `Other` has a common name
abbrev pub has_common : AlgorithmParameters → Bool
has_common (types.Other p) = has_named common_names p.fields
has_common own = false

-- all members; None if a float is in them
abbrev pub other_members : OtherKeyParameters → Option Members
other_members p = if members_have_float p.fields then None else Some p.fields

-- the members of each type (RFC 7518 section 6, RFC 8037 section 2)
abbrev pub parameters_members : AlgorithmParameters → Option Members
parameters_members (types.EllipticCurve p) = Some (elliptic_members p)
parameters_members (types.RSA p) = Some (rsa_members p)
parameters_members (types.OctetKey p) = Some (octet_members p)
parameters_members (types.OctetKeyPair p) = Some (pair_members p)
parameters_members (types.Other p) = other_members p

-- the object of these members (RFC 7518 section 6, RFC 8037 section 2)
abbrev pub parameters_value : AlgorithmParameters → Option Data
parameters_value a = option_map object (parameters_members a)

-- an `Other` with the members of a type becomes that type
abbrev pub normal_parameters : AlgorithmParameters → AlgorithmParameters
normal_parameters (types.EllipticCurve p) = types.EllipticCurve p
normal_parameters (types.RSA p) = types.RSA p
normal_parameters (types.OctetKey p) = types.OctetKey p
normal_parameters (types.OctetKeyPair p) = types.OctetKeyPair p
normal_parameters (types.Other p) = unwrap_or (named_from (object p.fields)) (types.Other p)

-- one mark in place of each float
abbrev pub marked_other : OtherKeyParameters → OtherKeyParameters
marked_other p = record { fields = members_marked p.fields }

-- the type with one mark in place of each float
abbrev pub marked_parameters : AlgorithmParameters → AlgorithmParameters
marked_parameters (types.EllipticCurve p) = types.EllipticCurve p
marked_parameters (types.RSA p) = types.RSA p
marked_parameters (types.OctetKey p) = types.OctetKey p
marked_parameters (types.OctetKeyPair p) = types.OctetKeyPair p
marked_parameters (types.Other p) = types.Other (marked_other p)
