-- A type, written and read again, is its normal form, and a type that was read is its own.
use Rattle.std.proofs.Common.{◌≡◌, ℕ, List, Bool, true, false, cond, Option, Some, None, option_map, unwrap_or, codes}
use Rattle.std.proofs.Common.{refl, sym, ap, ◌∙◌, subst}
use Rattle.std.specs.Option.{option_or}
use Rattle.serde_json.specs.Data.{Data, null, boolean, number, string, array, object, Members}
use Rattle.serde_json.specs.Find.{as_object}
use Rattle.serde_json.specs.Written.{members_have_float}
use Rattle.jwt_base.specs.Members.{has_named, without}
use Rattle.jwt_base.proofs.FreeMembers.{without-free}
use Rattle.jwt_base.proofs.MembersWritten.{get_member-without}
use Rattle.jwt_params.specs.Common.{common_names}
use Rattle.jwt_params.specs.declared.curves.EllipticCurve.{EllipticCurve}
use Rattle.jwt_params.specs.declared.curves.EllipticCurve.TheVariants.{P256, P384, P521, Ed25519}
use Rattle.jwt_params.specs.declared.key_types.EllipticCurveKeyType.{EllipticCurveKeyType}
use Rattle.jwt_params.specs.declared.key_types.EllipticCurveKeyType.TheVariants.{EC}
use Rattle.jwt_params.specs.declared.key_types.RSAKeyType.{RSAKeyType}
use Rattle.jwt_params.specs.declared.key_types.RSAKeyType.TheVariants.{RSA}
use Rattle.jwt_params.specs.declared.key_types.OctetKeyType.{OctetKeyType}
use Rattle.jwt_params.specs.declared.key_types.OctetKeyType.TheVariants.{Octet}
use Rattle.jwt_params.specs.declared.key_types.OctetKeyPairType.{OctetKeyPairType}
use Rattle.jwt_params.specs.declared.key_types.OctetKeyPairType.TheVariants.{OctetKeyPair}
use Rattle.jwt_params.specs.Parameters.{other_from, named_from, parameters_from, elliptic_members, rsa_members}
use Rattle.jwt_params.specs.Parameters.{octet_members, pair_members, parameters_members, normal_parameters, has_common}
use Rattle.jwt_params.specs.declared.elliptic.EllipticCurveKeyParameters.{EllipticCurveKeyParameters}
use Rattle.jwt_params.specs.declared.rsa.RSAKeyParameters.{RSAKeyParameters}
use Rattle.jwt_params.specs.declared.octet.OctetKeyParameters.{OctetKeyParameters}
use Rattle.jwt_params.specs.declared.octet_pair.OctetKeyPairParameters.{OctetKeyPairParameters}
use Rattle.jwt_params.specs.declared.other.OtherKeyParameters.{OtherKeyParameters}
use Rattle.jwt_params.specs.declared.parameters.AlgorithmParameters.{AlgorithmParameters}
use Rattle.jwt_params.specs.declared.parameters.AlgorithmParameters.TheVariants as types

elliptic_read : (t : EllipticCurveKeyType) (c : EllipticCurve) (x y : List ℕ) → let p : EllipticCurveKeyParameters =
    record { key_type = t; curve = c; x = x; y = y } in parameters_from (object (elliptic_members p))
    ≡ Some (types.EllipticCurve p)
elliptic_read EC P256 x y = refl
elliptic_read EC P384 x y = refl
elliptic_read EC P521 x y = refl
elliptic_read EC Ed25519 x y = refl

rsa_read : (t : RSAKeyType) (n e : List ℕ) → let p : RSAKeyParameters = record { key_type = t; n = n; e = e } in
    parameters_from (object (rsa_members p)) ≡ Some (types.RSA p)
rsa_read RSA n e = refl

octet_read : (t : OctetKeyType) (k : List ℕ) → let p : OctetKeyParameters = record { key_type = t; value = k } in
    parameters_from (object (octet_members p)) ≡ Some (types.OctetKey p)
octet_read Octet k = refl

pair_read : (t : OctetKeyPairType) (c : EllipticCurve) (x : List ℕ) → let p : OctetKeyPairParameters =
    record { key_type = t; curve = c; x = x } in parameters_from (object (pair_members p)) ≡ Some (types.OctetKeyPair p)
pair_read OctetKeyPair P256 x = refl
pair_read OctetKeyPair P384 x = refl
pair_read OctetKeyPair P521 x = refl
pair_read OctetKeyPair Ed25519 x = refl

or_other : (o : Option AlgorithmParameters) (a : AlgorithmParameters) → option_or o (Some a) ≡ Some (unwrap_or o a)
or_other None a = refl
or_other (Some x) a = refl

other_read : (p : OtherKeyParameters) (ms : Members) (b : Bool) → members_have_float p.fields ≡ b
    → cond b None (Some p.fields) ≡ Some ms → parameters_from (object ms) ≡ Some (normal_parameters (types.Other p))
other_read p ms true is e = absurd (cc)
other_read p ms false is e =
    let same : p.fields ≡ ms = cc in
    rw (← same, is) (or_other (named_from (object p.fields)) (types.Other p))

-- a type, written and read again, is its normal form
pub parameters_read : (a : AlgorithmParameters) (ms : Members) → parameters_members a ≡ Some ms
    → parameters_from (object ms) ≡ Some (normal_parameters a)
parameters_read (types.EllipticCurve p) ms is = ap (λ x. parameters_from (object x)) (sym (ap (λ o. unwrap_or o ms) is))
    ∙ elliptic_read p.key_type p.curve p.x p.y
parameters_read (types.RSA p) ms is = ap (λ x. parameters_from (object x)) (sym (ap (λ o. unwrap_or o ms) is))
    ∙ rsa_read p.key_type p.n p.e
parameters_read (types.OctetKey p) ms is = ap (λ x. parameters_from (object x)) (sym (ap (λ o. unwrap_or o ms) is))
    ∙ octet_read p.key_type p.value
parameters_read (types.OctetKeyPair p) ms is = ap (λ x. parameters_from (object x)) (sym (ap (λ o. unwrap_or o ms) is))
    ∙ pair_read p.key_type p.curve p.x
parameters_read (types.Other p) ms is = other_read p ms _ refl is

other_free : (p : OtherKeyParameters) (ms : Members) (b : Bool) → without common_names p.fields ≡ p.fields
    → cond b None (Some p.fields) ≡ Some ms → without common_names ms ≡ ms
other_free p ms true free e = absurd (cc)
other_free p ms false free e = let same : p.fields ≡ ms = cc in rw (← same) free

-- the members of a type have none of the common names
pub parameters_free : (a : AlgorithmParameters) (ms : Members) → has_common a ≡ false → parameters_members a ≡ Some ms
    → without common_names ms ≡ ms
parameters_free (types.EllipticCurve p) ms e is = let same = ap (λ o. unwrap_or o ms) is in rw (← same) refl
parameters_free (types.RSA p) ms e is = let same = ap (λ o. unwrap_or o ms) is in rw (← same) refl
parameters_free (types.OctetKey p) ms e is = let same = ap (λ o. unwrap_or o ms) is in rw (← same) refl
parameters_free (types.OctetKeyPair p) ms e is = let same = ap (λ o. unwrap_or o ms) is in rw (← same) refl
parameters_free (types.Other p) ms e is = other_free p ms (members_have_float p.fields)
    (without-free common_names p.fields e) is

other_no_float : (p : OtherKeyParameters) (ms : Members) (b : Bool) → members_have_float p.fields ≡ b
    → cond b None (Some p.fields) ≡ Some ms → members_have_float ms ≡ false
other_no_float p ms true is e = absurd (cc)
other_no_float p ms false is e = let same : p.fields ≡ ms = cc in rw (← same) is

-- a written type has no float
pub parameters_no_float : (a : AlgorithmParameters) (ms : Members) → parameters_members a ≡ Some ms
    → members_have_float ms ≡ false
parameters_no_float (types.EllipticCurve p) ms is = let same = ap (λ o. unwrap_or o ms) is in rw (← same) refl
parameters_no_float (types.RSA p) ms is = let same = ap (λ o. unwrap_or o ms) is in rw (← same) refl
parameters_no_float (types.OctetKey p) ms is = let same = ap (λ o. unwrap_or o ms) is in rw (← same) refl
parameters_no_float (types.OctetKeyPair p) ms is = let same = ap (λ o. unwrap_or o ms) is in rw (← same) refl
parameters_no_float (types.Other p) ms is = other_no_float p ms _ refl is

-- a type that was read of these members
pub record OwnParameters (ms : Members) (a : AlgorithmParameters) : Type 0 where
  pub stays : normal_parameters a ≡ a
  pub free : has_named common_names ms ≡ false → has_common a ≡ false
  pub members : (written : Members) × (parameters_members a ≡ Some written)

-- one with parameters of its own
named_at : (ms : Members) (x : Option EllipticCurveKeyParameters) (y : Option RSAKeyParameters)
    (z : Option OctetKeyParameters) (w : Option OctetKeyPairParameters) (a : AlgorithmParameters)
    → option_or (option_map types.EllipticCurve x)
    (option_or (option_map types.RSA y) (option_or (option_map types.OctetKey z) (option_map types.OctetKeyPair w)))
    ≡ Some a → OwnParameters ms a
named_at ms (Some p) y z w a e = subst (OwnParameters ms) (ap (λ o. unwrap_or o a) e)
    (record { stays = refl; free = λ _. refl; members = (_, refl) })
named_at ms None (Some p) z w a e = subst (OwnParameters ms) (ap (λ o. unwrap_or o a) e)
    (record { stays = refl; free = λ _. refl; members = (_, refl) })
named_at ms None None (Some p) w a e = subst (OwnParameters ms) (ap (λ o. unwrap_or o a) e)
    (record { stays = refl; free = λ _. refl; members = (_, refl) })
named_at ms None None None (Some p) a e = subst (OwnParameters ms) (ap (λ o. unwrap_or o a) e)
    (record { stays = refl; free = λ _. refl; members = (_, refl) })
named_at ms None None None None a e = absurd (cc)

other_own : (ms : Members) (b : Bool) (a : AlgorithmParameters) → members_have_float ms ≡ b → named_from (object ms)
    ≡ None → option_map types.Other (cond b None (Some (record { fields = ms }))) ≡ Some a → OwnParameters ms a
other_own ms true a float none e = absurd (cc)
other_own ms false a float none e = subst (OwnParameters ms) (ap (λ o. unwrap_or o a) e)
    (record { stays = rw none; free = λ f. f; members = (ms, rw float) })

own_of : (ms : Members) (o : Option AlgorithmParameters) (a : AlgorithmParameters) → named_from (object ms) ≡ o
    → option_or o (option_map types.Other (other_from (object ms))) ≡ Some a → OwnParameters ms a
own_of ms None a is e = other_own ms _ a refl is e
own_of ms (Some b) a is e = subst (OwnParameters ms) (ap (λ o. unwrap_or o a) e) (named_at ms _ _ _ _ b is)

pub parameters_own : (ms : Members) (a : AlgorithmParameters) → parameters_from (object ms) ≡ Some a → OwnParameters ms a
parameters_own ms a e = own_of ms _ a refl e

-- a type that was read is its own normal form
pub parameters_stay : (d : Data) (a : AlgorithmParameters) → parameters_from d ≡ Some a → normal_parameters a ≡ a
parameters_stay null a e = absurd (cc)
parameters_stay (boolean b) a e = absurd (cc)
parameters_stay (number n) a e = absurd (cc)
parameters_stay (string s) a e = absurd (cc)
parameters_stay (array ds) a e = absurd (cc)
parameters_stay (object ms) a e = (parameters_own ms a e).stays

twice_at : (p : OtherKeyParameters) (o : Option AlgorithmParameters) → named_from (object p.fields) ≡ o
    → normal_parameters (unwrap_or o (types.Other p)) ≡ unwrap_or o (types.Other p)
twice_at p None e = rw e
twice_at p (Some a) e = (named_at p.fields _ _ _ _ a e).stays

pub parameters_twice : (a : AlgorithmParameters) → normal_parameters (normal_parameters a) ≡ normal_parameters a
parameters_twice (types.EllipticCurve p) = refl
parameters_twice (types.RSA p) = refl
parameters_twice (types.OctetKey p) = refl
parameters_twice (types.OctetKeyPair p) = refl
parameters_twice (types.Other p) = twice_at p _ refl

named_from-without : (ms : Members) → named_from (object (without common_names ms)) ≡ named_from (object ms)
named_from-without ms =
    let left = get_member-without common_names in
    simp (
      left (codes "kty") ms,
      left (codes "crv") ms,
      left (codes "x") ms,
      left (codes "y") ms,
      left (codes "n") ms,
      left (codes "e") ms,
      left (codes "k") ms,
    )

-- the parameters of a type are not among the common members
pub named-without : (d : Data) (ms : Members) → as_object d ≡ Some ms → named_from (object (without common_names ms))
    ≡ named_from d
named-without null ms e = absurd (cc)
named-without (boolean b) ms e = absurd (cc)
named-without (number n) ms e = absurd (cc)
named-without (string s) ms e = absurd (cc)
named-without (array ds) ms e = absurd (cc)
named-without (object ns) ms e = let same : ns ≡ ms = cc in rw (← same) (named_from-without ns)
