-- A key, written and read again, is its normal form.
use Rattle.std.proofs.Common.{◌≡◌, Bool, true, false, cond, Option, Some, None, option_map, option_and_then, unwrap_or}
use Rattle.std.proofs.Common.{refl, sym, ap, ◌∙◌, subst}
use Rattle.std.specs.Option.{option_or}
use Rattle.serde_json.specs.Data.{Data, object, Members}
use Rattle.serde_json.specs.Find.{as_object}
use Rattle.serde_json.specs.Written.{members_have_float}
use Rattle.jwt_base.proofs.Readings.{weaker}
use Rattle.jwt_base.specs.Kind as kind
use Rattle.jwt_base.specs.KindOf.{RefusesAs}
use Rattle.jwt_base.specs.Members.{without}
use Rattle.jwt_base.specs.declared.errors.Error.{Error}
use Rattle.jwt_base.proofs.FreeMembers.{has_named-without}
use Rattle.jwt_params.specs.Common.{common_names, with_common}
use Rattle.jwt_params.proofs.CommonLemmas.{one_common, without-with_common, reads_with_common, common_is_normal}
use Rattle.jwt_params.proofs.CommonLemmas.{common_twice, common_no_float}
use Rattle.jwt_params.specs.Parameters.{named_from, other_from, parameters_from, parameters_members, normal_parameters}
use Rattle.jwt_params.specs.Parameters.{has_common}
use Rattle.jwt_params.specs.declared.parameters.AlgorithmParameters.{AlgorithmParameters}
use Rattle.jwt_params.specs.declared.parameters.AlgorithmParameters.TheVariants as types
use Rattle.jwt_params.proofs.ParametersLemmas.{parameters_read, parameters_free, parameters_no_float, OwnParameters}
use Rattle.jwt_params.proofs.ParametersLemmas.{parameters_own, parameters_twice, named-without}
use Rattle.jwt_keys.specs.Jwk.{ReadsKey, own_parameters_from, key_members, key_value}
use Rattle.jwt_keys.specs.JwkWritten.{normal_key, IsNormal, HasNormalForm}
use Rattle.jwt_keys.specs.declared.jwk.Jwk.{Jwk}

-- ---- reading

-- no key can be read from the value
abbrev pub RefusesKey : Data → Error → Type 0
RefusesKey d = RefusesAs kind.Json ((k : Jwk) → ¬ ReadsKey d k)

own_parameters_from-at : (d : Data) (ms : Members) (o : Option AlgorithmParameters) → as_object d ≡ Some ms
    → named_from d ≡ o → own_parameters_from d
    ≡ option_or o (option_map types.Other (other_from (object (without common_names ms))))
own_parameters_from-at d ms o is e =
    let ws = without common_names ms in
    ap (λ x. option_and_then (λ ns. parameters_from (object (without common_names ns))) x) is
    ∙ ap (λ x. option_or x (option_map types.Other (other_from (object ws)))) (named-without d ms is ∙ e)

pub own_parameters_from-named : (d : Data) (ms : Members) (a : AlgorithmParameters) → as_object d ≡ Some ms
    → named_from d ≡ Some a → own_parameters_from d ≡ Some a
own_parameters_from-named d ms a is e = own_parameters_from-at d ms (Some a) is e

other_whole : (ws : Members) (b : Bool) → members_have_float ws ≡ b → b ≡ false
    → option_map types.Other (other_from (object ws)) ≡ Some (types.Other (record { fields = ws }))
other_whole ws b is e = let none : members_have_float ws ≡ false = is ∙ e in rw none refl

other_float : (ws : Members) → members_have_float ws ≡ true → option_map types.Other (other_from (object ws)) ≡ None
other_float ws e = rw e refl

pub own_parameters_from-other : (d : Data) (ms : Members) → as_object d ≡ Some ms → named_from d ≡ None
    → members_have_float (without common_names ms) ≡ false → own_parameters_from d
    ≡ Some (types.Other (record { fields = without common_names ms }))
own_parameters_from-other d ms is e none = own_parameters_from-at d ms None is e
    ∙ other_whole (without common_names ms) _ none refl

pub own_parameters_from-float : (d : Data) (ms : Members) (e : Error) → as_object d ≡ Some ms → named_from d ≡ None
    → RefusesAs kind.Json (members_have_float (without common_names ms) ≡ true) e
    → RefusesAs kind.Json (own_parameters_from d ≡ None) e
own_parameters_from-float d ms e is none = weaker _ _ e (λ float. own_parameters_from-at d ms None is none
    ∙ other_float (without common_names ms) float)

-- ---- writing

-- a value reads as one key at most
pub reads_one_key : (d : Data) (k l : Jwk) → ReadsKey d k → ReadsKey d l → k ≡ l
reads_one_key d k l r s =
    let common = one_common d k.common l.common r.common s.common in
    let algorithm : k.algorithm ≡ l.algorithm = cc (r.algorithm, s.algorithm) in
    λ i. record { common = common i; algorithm = algorithm i }

reads_members : (k : Jwk) (ms : Members) → without common_names ms ≡ ms → parameters_from (object ms)
    ≡ Some (normal_parameters k.algorithm) → ReadsKey (object (with_common k.common ms)) (normal_key k)
reads_members k ms free kind = record {
  common = reads_with_common k.common ms free;
  algorithm = ap (λ x. parameters_from (object x)) (without-with_common k.common ms free) ∙ kind;
}

-- a written key is an object of its own members, which have no common name
written_at : (k : Jwk) (d : Data) (b : Bool) (o : Option Members) → has_common k.algorithm ≡ b
    → parameters_members k.algorithm ≡ o → option_map object (cond b None (option_map (with_common k.common) o))
    ≡ Some d → ReadsKey d (normal_key k)
written_at k d true o e f is = absurd (cc)
written_at k d false None e f is = absurd (cc)
written_at k d false (Some ms) e f is =
    let same : object (with_common k.common ms) ≡ d = ap (λ x. unwrap_or x d) is in
    subst (λ x. ReadsKey x (normal_key k)) same (reads_members k ms (parameters_free k.algorithm ms e f)
    (parameters_read k.algorithm ms f))

pub reads_written : (k : Jwk) (d : Data) → key_value k ≡ Some d → ReadsKey d (normal_key k)
reads_written k d is = written_at k d _ _ refl refl is

no_float_at : (k : Jwk) (ms : Members) (b : Bool) (o : Option Members) → parameters_members k.algorithm ≡ o
    → cond b None (option_map (with_common k.common) o) ≡ Some ms → members_have_float ms ≡ false
no_float_at k ms true o f is = absurd (cc)
no_float_at k ms false None f is = absurd (cc)
no_float_at k ms false (Some ns) f is =
    let same : with_common k.common ns ≡ ms = ap (λ x. unwrap_or x ms) is in
    subst (λ x. members_have_float x ≡ false) same (common_no_float k.common ns (parameters_no_float k.algorithm ns f))

-- a written key has no float
pub written_no_float : (k : Jwk) (ms : Members) → key_members k ≡ Some ms → members_have_float ms ≡ false
written_no_float k ms is = no_float_at k ms _ _ refl is

-- ---- normal forms

own_in : (o : Option Members) (a : AlgorithmParameters)
    → option_and_then (λ ms. parameters_from (object (without common_names ms))) o ≡ Some a
    → (ms : Members) × (OwnParameters ms a × (has_common a ≡ false))
own_in None a e = absurd (cc)
own_in (Some ms) a e =
    let ws = without common_names ms in
    let own = parameters_own ws a e in
    (ws, (own, own.free (has_named-without common_names ms)))

-- a key that was read is its own normal form, and it can be written
pub read_is_normal : (d : Data) (k : Jwk) → ReadsKey d k → IsNormal k
read_is_normal d k r =
    let own = own_in (as_object d) k.algorithm r.algorithm in
    let common = common_is_normal d k.common r.common in
    record {
      itself = λ i. record { common = common i; algorithm = own.1.0.stays i };
      written = (object (with_common k.common own.1.0.members.0), rw (own.1.1, own.1.0.members.1) refl);
    }

normal_twice : (k : Jwk) → normal_key (normal_key k) ≡ normal_key k
normal_twice k = λ i. record { common = common_twice k.common i; algorithm = parameters_twice k.algorithm i }

same_written : (k l : Jwk) → IsNormal k → IsNormal l → key_value k ≡ key_value l → k ≡ l
same_written k l n m e =
    let d = m.written.0 in
    sym n.itself ∙ reads_one_key d (normal_key k) (normal_key l) (reads_written k d (e ∙ m.written.1))
    (reads_written l d m.written.1) ∙ m.itself

pub has_normal_form : (k : Jwk) → HasNormalForm k
has_normal_form k = record {
  reads_back = λ d is l. (
    λ r. reads_one_key d l (normal_key k) r (reads_written k d is),
    λ e. subst (ReadsKey d) (sym e) (reads_written k d is),
  );
  once = normal_twice k;
  told_apart = λ n l m. (same_written k l n m, ap key_value);
}
