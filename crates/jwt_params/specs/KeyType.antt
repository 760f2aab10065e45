-- The types of keys and their names (RFC 7518 section 6.1, RFC 8037 section 2).
use Rattle.std.specs.Prelude.{ℕ, List, [], ◌∷◌, Option, codes, option_and_then}
use Rattle.serde_json.specs.Data.{Data}
use Rattle.serde_json.specs.Find.{as_str}
use Rattle.jwt_base.specs.Spelling.{spelled}
use Rattle.jwt_params.specs.declared.key_types.EllipticCurveKeyType.{EllipticCurveKeyType}
use Rattle.jwt_params.specs.declared.key_types.EllipticCurveKeyType.TheVariants.{EC}
use Rattle.jwt_params.specs.declared.key_types.RSAKeyType.{RSAKeyType}
use Rattle.jwt_params.specs.declared.key_types.RSAKeyType.TheVariants.{RSA}
use Rattle.jwt_params.specs.declared.key_types.OctetKeyType.{OctetKeyType}
use Rattle.jwt_params.specs.declared.key_types.OctetKeyType.TheVariants.{Octet}
use Rattle.jwt_params.specs.declared.key_types.OctetKeyPairType.{OctetKeyPairType}
use Rattle.jwt_params.specs.declared.key_types.OctetKeyPairType.TheVariants.{OctetKeyPair}

-- `EC` (RFC 7518 section 6.1)
abbrev pub elliptic_type_name : EllipticCurveKeyType → List ℕ
elliptic_type_name EC = codes "EC"

abbrev pub elliptic_type_named : List ℕ → Option EllipticCurveKeyType
elliptic_type_named = spelled elliptic_type_name (EC ∷ [])

-- the value of `kty` (RFC 7517 section 4.1)
abbrev pub elliptic_type_from : Data → Option EllipticCurveKeyType
elliptic_type_from value = option_and_then elliptic_type_named (as_str value)

-- `RSA` (RFC 7518 section 6.1)
abbrev pub rsa_type_name : RSAKeyType → List ℕ
rsa_type_name RSA = codes "RSA"

abbrev pub rsa_type_named : List ℕ → Option RSAKeyType
rsa_type_named = spelled rsa_type_name (RSA ∷ [])

-- the value of `kty` (RFC 7517 section 4.1)
abbrev pub rsa_type_from : Data → Option RSAKeyType
rsa_type_from value = option_and_then rsa_type_named (as_str value)

-- `oct` (RFC 7518 section 6.1)
abbrev pub octet_type_name : OctetKeyType → List ℕ
octet_type_name Octet = codes "oct"

abbrev pub octet_type_named : List ℕ → Option OctetKeyType
octet_type_named = spelled octet_type_name (Octet ∷ [])

-- the value of `kty` (RFC 7517 section 4.1)
abbrev pub octet_type_from : Data → Option OctetKeyType
octet_type_from value = option_and_then octet_type_named (as_str value)

-- `OKP` (RFC 8037 section 2)
abbrev pub octet_pair_type_name : OctetKeyPairType → List ℕ
octet_pair_type_name OctetKeyPair = codes "OKP"

abbrev pub octet_pair_type_named : List ℕ → Option OctetKeyPairType
octet_pair_type_named = spelled octet_pair_type_name (OctetKeyPair ∷ [])

-- the value of `kty` (RFC 7517 section 4.1)
abbrev pub octet_pair_type_from : Data → Option OctetKeyPairType
octet_pair_type_from value = option_and_then octet_pair_type_named (as_str value)
