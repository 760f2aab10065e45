-- The bytes that a key's type feeds to a hasher: of free members their names alone.
use Rattle.std.specs.Prelude.{◌≡◌, ◌++◌, refl}
use Rattle.std.specs.Hash.{HashWrites, Alike, str}
use Rattle.jwt_base.specs.equality.Decided.{fed_by_mark}
use Rattle.jwt_base.specs.equality.NamesFed.{names_fed, names_marked}
use Rattle.jwt_base.specs.equality.VariantsSame.{variant_fed}
use Rattle.jwt_params.specs.contracts.curves.EllipticCurve.{the_type}
use Rattle.jwt_params.specs.Parameters.{marked_other, marked_parameters}
use Rattle.jwt_params.specs.equality.ParametersSame.{elliptic_eq, elliptic_decides, pair_eq, pair_decides, other_eq}
use Rattle.jwt_params.specs.equality.ParametersSame.{other_decides, parameters_eq, parameters_decides}
use Rattle.jwt_params.specs.declared.elliptic.EllipticCurveKeyParameters.{EllipticCurveKeyParameters}
use Rattle.jwt_params.specs.declared.rsa.RSAKeyParameters.{RSAKeyParameters}
use Rattle.jwt_params.specs.declared.octet.OctetKeyParameters.{OctetKeyParameters}
use Rattle.jwt_params.specs.declared.octet_pair.OctetKeyPairParameters.{OctetKeyPairParameters}
use Rattle.jwt_params.specs.declared.other.OtherKeyParameters.{OtherKeyParameters}
use Rattle.jwt_params.specs.declared.parameters.AlgorithmParameters.{AlgorithmParameters}
use Rattle.jwt_params.specs.declared.parameters.AlgorithmParameters.TheVariants as types

abbrev pub elliptic_fed : EllipticCurveKeyParameters → HashWrites
elliptic_fed p = variant_fed the_type p.curve ++ str p.x ++ str p.y

pub elliptic_alike : Alike elliptic_eq elliptic_fed
elliptic_alike = fed_by_mark elliptic_eq (λ p. p) elliptic_decides elliptic_fed elliptic_fed (λ p. refl)

abbrev pub rsa_fed : RSAKeyParameters → HashWrites
rsa_fed p = str p.n ++ str p.e

abbrev pub octet_fed : OctetKeyParameters → HashWrites
octet_fed p = str p.value

abbrev pub pair_fed : OctetKeyPairParameters → HashWrites
pair_fed p = variant_fed the_type p.curve ++ str p.x

pub pair_alike : Alike pair_eq pair_fed
pair_alike = fed_by_mark pair_eq (λ p. p) pair_decides pair_fed pair_fed (λ p. refl)

abbrev pub other_fed : OtherKeyParameters → HashWrites
other_fed p = names_fed p.fields

pub other_alike : Alike other_eq other_fed
other_alike = fed_by_mark other_eq marked_other other_decides other_fed other_fed (λ p. names_marked p.fields)

abbrev pub parameters_fed : AlgorithmParameters → HashWrites
parameters_fed (types.EllipticCurve p) = elliptic_fed p
parameters_fed (types.RSA p) = rsa_fed p
parameters_fed (types.OctetKey p) = octet_fed p
parameters_fed (types.OctetKeyPair p) = pair_fed p
parameters_fed (types.Other p) = other_fed p

pub parameters_marked : (a : AlgorithmParameters) → parameters_fed a ≡ parameters_fed (marked_parameters a)
parameters_marked (types.EllipticCurve p) = refl
parameters_marked (types.RSA p) = refl
parameters_marked (types.OctetKey p) = refl
parameters_marked (types.OctetKeyPair p) = refl
parameters_marked (types.Other p) = names_marked p.fields

pub parameters_alike : Alike parameters_eq parameters_fed
parameters_alike = fed_by_mark parameters_eq marked_parameters parameters_decides parameters_fed parameters_fed
    parameters_marked
