-- The verification key that a JSON Web Key stands for (RFC 7518 section 6, RFC 8037 section 2).
use Rattle.jwt_base.specs.Kind.{Kind}
use Rattle.jwt_base.specs.Kind as kind
use Rattle.jwt_keys.specs.Key.{Key, IsRsaOfParts, IsEcOfParts, IsEdOfPart, IsHmacOfPart}
use Rattle.jwt_params.specs.declared.parameters.AlgorithmParameters.{AlgorithmParameters}
use Rattle.jwt_params.specs.declared.parameters.AlgorithmParameters.TheVariants.{EllipticCurve, RSA, OctetKey}
use Rattle.jwt_params.specs.declared.parameters.AlgorithmParameters.TheVariants.{OctetKeyPair, Other}

-- the parameters are those of this key; the curve is not checked (RFC 7518 section 6, RFC 8037
-- section 2)
abbrev pub IsKeyOf : AlgorithmParameters → Key → Type 0
IsKeyOf (EllipticCurve p) key = IsEcOfParts p.x p.y key
IsKeyOf (RSA p) key = IsRsaOfParts p.n p.e key
IsKeyOf (OctetKey p) key = IsHmacOfPart p.value key
IsKeyOf (OctetKeyPair p) key = IsEdOfPart p.x key
IsKeyOf (Other p) key = ⊥

-- the kind of the refusal of parameters that no key has
abbrev pub refusal_of : AlgorithmParameters → Kind
refusal_of (Other p) = kind.UnsupportedAlgorithm
refusal_of (EllipticCurve p) = kind.Base64
refusal_of (RSA p) = kind.Base64
refusal_of (OctetKey p) = kind.Base64
refusal_of (OctetKeyPair p) = kind.Base64
