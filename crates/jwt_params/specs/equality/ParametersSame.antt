-- The sameness of the types of keys, with any two floats counted as equal.
use Rattle.std.specs.Prelude.{◌≡◌, ◌&&◌, Bool, false, refl}
use denote.Enum.Bare.{sameb}
use Rattle.std.specs.Bool.{Decides}
use Rattle.std.specs.Cmp.{IsEquivalence}
use Rattle.std.specs.Str.{bytes_eq}
use Rattle.std.proofs.Common.{ap}
use Rattle.std.proofs.lemmas.Slice.Eq.{bytes_eq-Decides}
use Rattle.jwt_base.specs.DataEq.{members_eq}
use Rattle.jwt_base.specs.equality.DataEqLaws.{members_decides}
use Rattle.jwt_base.specs.equality.Decided.{and_decides, same_as, decided_by}
use Rattle.jwt_base.specs.equality.VariantsSame.{variant_decides}
use Rattle.jwt_params.specs.contracts.curves.EllipticCurve.{the_type}
use Rattle.jwt_params.specs.declared.key_types.EllipticCurveKeyType.{EllipticCurveKeyType}
use Rattle.jwt_params.specs.declared.key_types.EllipticCurveKeyType.TheVariants.{EC}
use Rattle.jwt_params.specs.declared.key_types.RSAKeyType.{RSAKeyType}
use Rattle.jwt_params.specs.declared.key_types.RSAKeyType.TheVariants.{RSA}
use Rattle.jwt_params.specs.declared.key_types.OctetKeyType.{OctetKeyType}
use Rattle.jwt_params.specs.declared.key_types.OctetKeyType.TheVariants.{Octet}
use Rattle.jwt_params.specs.declared.key_types.OctetKeyPairType.{OctetKeyPairType}
use Rattle.jwt_params.specs.declared.key_types.OctetKeyPairType.TheVariants.{OctetKeyPair}
use Rattle.jwt_params.specs.Parameters.{marked_other, marked_parameters}
use Rattle.jwt_params.specs.declared.elliptic.EllipticCurveKeyParameters.{EllipticCurveKeyParameters}
use Rattle.jwt_params.specs.declared.rsa.RSAKeyParameters.{RSAKeyParameters}
use Rattle.jwt_params.specs.declared.octet.OctetKeyParameters.{OctetKeyParameters}
use Rattle.jwt_params.specs.declared.octet_pair.OctetKeyPairParameters.{OctetKeyPairParameters}
use Rattle.jwt_params.specs.declared.other.OtherKeyParameters.{OtherKeyParameters}
use Rattle.jwt_params.specs.declared.parameters.AlgorithmParameters.{AlgorithmParameters}
use Rattle.jwt_params.specs.declared.parameters.AlgorithmParameters.TheVariants as types

abbrev pub elliptic_eq : EllipticCurveKeyParameters → EllipticCurveKeyParameters → Bool
elliptic_eq p q = sameb the_type p.curve q.curve && (bytes_eq p.x q.x && bytes_eq p.y q.y)

elliptic_type : (a b : EllipticCurveKeyType) → a ≡ b
elliptic_type EC EC = refl

pub elliptic_decides : (p q : EllipticCurveKeyParameters) → Decides (elliptic_eq p q) (p ≡ q)
elliptic_decides p q = same_as _ (and_decides _ _ (variant_decides the_type tt p.curve q.curve)
    (and_decides _ _ (bytes_eq-Decides p.x q.x) (bytes_eq-Decides p.y q.y)))
    (λ h i. record { key_type = elliptic_type p.key_type q.key_type i; curve = h.0 i; x = h.1.0 i; y = h.1.1 i })
    (λ e. (ap (λ x. x.curve) e, (ap (λ x. x.x) e, ap (λ x. x.y) e)))

pub elliptic_eq_equiv : IsEquivalence elliptic_eq
elliptic_eq_equiv = decided_by elliptic_eq (λ p. p) elliptic_decides

abbrev pub rsa_eq : RSAKeyParameters → RSAKeyParameters → Bool
rsa_eq p q = bytes_eq p.n q.n && bytes_eq p.e q.e

rsa_type : (a b : RSAKeyType) → a ≡ b
rsa_type RSA RSA = refl

pub rsa_decides : (p q : RSAKeyParameters) → Decides (rsa_eq p q) (p ≡ q)
rsa_decides p q = same_as _ (and_decides _ _ (bytes_eq-Decides p.n q.n) (bytes_eq-Decides p.e q.e))
    (λ h i. record { key_type = rsa_type p.key_type q.key_type i; n = h.0 i; e = h.1 i })
    (λ e. (ap (λ x. x.n) e, ap (λ x. x.e) e))

pub rsa_eq_equiv : IsEquivalence rsa_eq
rsa_eq_equiv = decided_by rsa_eq (λ p. p) rsa_decides

abbrev pub octet_eq : OctetKeyParameters → OctetKeyParameters → Bool
octet_eq p q = bytes_eq p.value q.value

octet_type : (a b : OctetKeyType) → a ≡ b
octet_type Octet Octet = refl

pub octet_decides : (p q : OctetKeyParameters) → Decides (octet_eq p q) (p ≡ q)
octet_decides p q = same_as _ (bytes_eq-Decides p.value q.value)
    (λ h i. record { key_type = octet_type p.key_type q.key_type i; value = h i })
    (λ e. ap (λ x. x.value) e)

pub octet_eq_equiv : IsEquivalence octet_eq
octet_eq_equiv = decided_by octet_eq (λ p. p) octet_decides

abbrev pub pair_eq : OctetKeyPairParameters → OctetKeyPairParameters → Bool
pair_eq p q = sameb the_type p.curve q.curve && bytes_eq p.x q.x

pair_type : (a b : OctetKeyPairType) → a ≡ b
pair_type OctetKeyPair OctetKeyPair = refl

pub pair_decides : (p q : OctetKeyPairParameters) → Decides (pair_eq p q) (p ≡ q)
pair_decides p q = same_as _ (and_decides _ _ (variant_decides the_type tt p.curve q.curve) (bytes_eq-Decides p.x q.x))
    (λ h i. record { key_type = pair_type p.key_type q.key_type i; curve = h.0 i; x = h.1 i })
    (λ e. (ap (λ x. x.curve) e, ap (λ x. x.x) e))

pub pair_eq_equiv : IsEquivalence pair_eq
pair_eq_equiv = decided_by pair_eq (λ p. p) pair_decides

abbrev pub other_eq : OtherKeyParameters → OtherKeyParameters → Bool
other_eq p q = members_eq p.fields q.fields

pub other_decides : (p q : OtherKeyParameters) → Decides (other_eq p q) (marked_other p ≡ marked_other q)
other_decides p q = same_as _ (members_decides p.fields q.fields) (λ h i. record { fields = h i }) (λ e. ap (λ x. x.fields) e)

pub other_eq_equiv : IsEquivalence other_eq
other_eq_equiv = decided_by other_eq marked_other other_decides

abbrev pub parameters_eq : AlgorithmParameters → AlgorithmParameters → Bool
parameters_eq (types.EllipticCurve p) (types.EllipticCurve q) = elliptic_eq p q
parameters_eq (types.EllipticCurve p) (types.RSA q) = false
parameters_eq (types.EllipticCurve p) (types.OctetKey q) = false
parameters_eq (types.EllipticCurve p) (types.OctetKeyPair q) = false
parameters_eq (types.EllipticCurve p) (types.Other q) = false
parameters_eq (types.RSA p) (types.EllipticCurve q) = false
parameters_eq (types.RSA p) (types.RSA q) = rsa_eq p q
parameters_eq (types.RSA p) (types.OctetKey q) = false
parameters_eq (types.RSA p) (types.OctetKeyPair q) = false
parameters_eq (types.RSA p) (types.Other q) = false
parameters_eq (types.OctetKey p) (types.EllipticCurve q) = false
parameters_eq (types.OctetKey p) (types.RSA q) = false
parameters_eq (types.OctetKey p) (types.OctetKey q) = octet_eq p q
parameters_eq (types.OctetKey p) (types.OctetKeyPair q) = false
parameters_eq (types.OctetKey p) (types.Other q) = false
parameters_eq (types.OctetKeyPair p) (types.EllipticCurve q) = false
parameters_eq (types.OctetKeyPair p) (types.RSA q) = false
parameters_eq (types.OctetKeyPair p) (types.OctetKey q) = false
parameters_eq (types.OctetKeyPair p) (types.OctetKeyPair q) = pair_eq p q
parameters_eq (types.OctetKeyPair p) (types.Other q) = false
parameters_eq (types.Other p) (types.EllipticCurve q) = false
parameters_eq (types.Other p) (types.RSA q) = false
parameters_eq (types.Other p) (types.OctetKey q) = false
parameters_eq (types.Other p) (types.OctetKeyPair q) = false
parameters_eq (types.Other p) (types.Other q) = other_eq p q

abbrev the_elliptic : EllipticCurveKeyParameters → AlgorithmParameters → EllipticCurveKeyParameters
the_elliptic d (types.EllipticCurve p) = p
the_elliptic d (types.RSA p) = d
the_elliptic d (types.OctetKey p) = d
the_elliptic d (types.OctetKeyPair p) = d
the_elliptic d (types.Other p) = d

abbrev the_rsa : RSAKeyParameters → AlgorithmParameters → RSAKeyParameters
the_rsa d (types.EllipticCurve p) = d
the_rsa d (types.RSA p) = p
the_rsa d (types.OctetKey p) = d
the_rsa d (types.OctetKeyPair p) = d
the_rsa d (types.Other p) = d

abbrev the_octet : OctetKeyParameters → AlgorithmParameters → OctetKeyParameters
the_octet d (types.EllipticCurve p) = d
the_octet d (types.RSA p) = d
the_octet d (types.OctetKey p) = p
the_octet d (types.OctetKeyPair p) = d
the_octet d (types.Other p) = d

abbrev the_pair : OctetKeyPairParameters → AlgorithmParameters → OctetKeyPairParameters
the_pair d (types.EllipticCurve p) = d
the_pair d (types.RSA p) = d
the_pair d (types.OctetKey p) = d
the_pair d (types.OctetKeyPair p) = p
the_pair d (types.Other p) = d

abbrev the_other : OtherKeyParameters → AlgorithmParameters → OtherKeyParameters
the_other d (types.EllipticCurve p) = d
the_other d (types.RSA p) = d
the_other d (types.OctetKey p) = d
the_other d (types.OctetKeyPair p) = d
the_other d (types.Other p) = p

pub parameters_decides : (a b : AlgorithmParameters) → Decides (parameters_eq a b) (marked_parameters a ≡ marked_parameters b)
parameters_decides (types.EllipticCurve p) (types.EllipticCurve q) =
    same_as _ (elliptic_decides p q) (ap types.EllipticCurve) (λ e. ap (the_elliptic p) e)
parameters_decides (types.EllipticCurve p) (types.RSA q) = (λ e. absurd (cc), λ e. absurd (cc))
parameters_decides (types.EllipticCurve p) (types.OctetKey q) = (λ e. absurd (cc), λ e. absurd (cc))
parameters_decides (types.EllipticCurve p) (types.OctetKeyPair q) = (λ e. absurd (cc), λ e. absurd (cc))
parameters_decides (types.EllipticCurve p) (types.Other q) = (λ e. absurd (cc), λ e. absurd (cc))
parameters_decides (types.RSA p) (types.EllipticCurve q) = (λ e. absurd (cc), λ e. absurd (cc))
parameters_decides (types.RSA p) (types.RSA q) = same_as _ (rsa_decides p q) (ap types.RSA) (λ e. ap (the_rsa p) e)
parameters_decides (types.RSA p) (types.OctetKey q) = (λ e. absurd (cc), λ e. absurd (cc))
parameters_decides (types.RSA p) (types.OctetKeyPair q) = (λ e. absurd (cc), λ e. absurd (cc))
parameters_decides (types.RSA p) (types.Other q) = (λ e. absurd (cc), λ e. absurd (cc))
parameters_decides (types.OctetKey p) (types.EllipticCurve q) = (λ e. absurd (cc), λ e. absurd (cc))
parameters_decides (types.OctetKey p) (types.RSA q) = (λ e. absurd (cc), λ e. absurd (cc))
parameters_decides (types.OctetKey p) (types.OctetKey q) = same_as _ (octet_decides p q) (ap types.OctetKey)
    (λ e. ap (the_octet p) e)
parameters_decides (types.OctetKey p) (types.OctetKeyPair q) = (λ e. absurd (cc), λ e. absurd (cc))
parameters_decides (types.OctetKey p) (types.Other q) = (λ e. absurd (cc), λ e. absurd (cc))
parameters_decides (types.OctetKeyPair p) (types.EllipticCurve q) = (λ e. absurd (cc), λ e. absurd (cc))
parameters_decides (types.OctetKeyPair p) (types.RSA q) = (λ e. absurd (cc), λ e. absurd (cc))
parameters_decides (types.OctetKeyPair p) (types.OctetKey q) = (λ e. absurd (cc), λ e. absurd (cc))
parameters_decides (types.OctetKeyPair p) (types.OctetKeyPair q) = same_as _ (pair_decides p q) (ap types.OctetKeyPair)
    (λ e. ap (the_pair p) e)
parameters_decides (types.OctetKeyPair p) (types.Other q) = (λ e. absurd (cc), λ e. absurd (cc))
parameters_decides (types.Other p) (types.EllipticCurve q) = (λ e. absurd (cc), λ e. absurd (cc))
parameters_decides (types.Other p) (types.RSA q) = (λ e. absurd (cc), λ e. absurd (cc))
parameters_decides (types.Other p) (types.OctetKey q) = (λ e. absurd (cc), λ e. absurd (cc))
parameters_decides (types.Other p) (types.OctetKeyPair q) = (λ e. absurd (cc), λ e. absurd (cc))
parameters_decides (types.Other p) (types.Other q) = same_as _ (other_decides p q) (ap types.Other)
    (λ e. ap (the_other (marked_other p)) e)

pub parameters_eq_equiv : IsEquivalence parameters_eq
parameters_eq_equiv = decided_by parameters_eq marked_parameters parameters_decides
