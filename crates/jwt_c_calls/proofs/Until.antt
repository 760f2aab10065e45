-- An accepted token: its contents, the last time at which it is accepted, and what is said of it.
use Rattle.std.proofs.Common.{◌≡◌, ◌∙◌, ℕ, ◌≤◌, List, length, None, Option, arith, refl, sym}
use Rattle.serde_json.specs.View.{view}
use Rattle.serde_json.specs.declared.value.Value.{Value}
use Rattle.jwt_base.specs.declared.algorithms.AlgorithmFamily.{AlgorithmFamily}
use Rattle.jwt_header.specs.declared.header.Header.{Header}
use Rattle.jwt_further.specs.Further.{further_fault}
use Rattle.jwt_validation.specs.Claim.{claims_of}
use Rattle.jwt_validation.specs.Moments.{first_moment, last_moment, end_of_time}
use Rattle.jwt_validation.specs.OptionsOf.{options_of}
use Rattle.jwt_validation.specs.declared.validation.Validation.{Validation}
use Rattle.jsonwebtoken.specs.Laws.{HasMoments, IsWithin}
use Rattle.jsonwebtoken.specs.Tests.{Contents, decode_order, set_order}
use Rattle.jsonwebtoken.proofs.LawsOf.{moments}
use Rattle.jwt_verifier.specs.Verifying.{order_of}
use Rattle.jwt_verifier.specs.declared.keys.Keys.{Keys}
use Rattle.jwt_verifier.specs.declared.keys.Keys.TheVariants.{One, Set}
use Rattle.jwt_c_calls.specs.Acceptors.{Accepting}
use Rattle.jwt_c_calls.specs.Verdicts.{Accepts, IsLast, PassesTests, SaysOf, broken_rule, verifier_call}
use Rattle.jwt_c_calls.specs.declared.verdicts.Accepted.{Accepted}
use Rattle.jwt_c_calls.proofs.Payloads.{payload_is_json, payload_is_part}

has_moments : (f : Option AlgorithmFamily) (keys : Keys) (validation : Validation) (token : List ℕ) (time : ℕ)
    → HasMoments (verifier_call f keys validation token time) (order_of keys)
has_moments f (One key) validation token time = moments (verifier_call f (One key) validation token time) decode_order refl
    refl refl (λ t m. (λ p. p, λ p. p))
has_moments f (Set set) validation token time = moments (verifier_call f (Set set) validation token time) set_order refl refl
    refl (λ t m. (λ p. p, λ p. p))

module _ (f : Option AlgorithmFamily) (v : Accepting) (token : List ℕ) (time : ℕ) (fits : time ≤ end_of_time) where
  -- the rules that hold once hold later on too, so that `exp` alone gives the last time
  last_is : (t : Contents) (last : ℕ) → PassesTests f v token time t
      → ((m : ℕ) → time ≤ m → broken_rule f v token m t ≡ None)
      → last ≡ last_moment (options_of v.verifier.validation) (claims_of t.payload_value)
      → IsLast f v token time t last
  last_is t last passes holds e m from fits_m =
      let call = verifier_call f v.verifier.keys.keys v.verifier.validation token time in
      let moments = has_moments f v.verifier.keys.keys v.verifier.validation token time in
      let at_now : IsWithin call (order_of v.verifier.keys.keys) t time = (moments t time fits).0 passes in
      let first : first_moment (options_of v.verifier.validation) (claims_of t.payload_value) ≤ time = at_now.from in
      let later : first_moment (options_of v.verifier.validation) (claims_of t.payload_value) ≤ m = omega arith in (
        λ p. rw e (((moments t m fits_m).0 p.0).until),
        λ le. (
          (moments t m fits_m).1 (record { base = at_now.base; rules = at_now.rules; from = later; until = rw e at le }),
          holds m from,
        ),
      )

  -- what is said of contents that pass every test
  pub accepts : (place : ℕ) (header : Header) (claims : Value) (a : Accepted) → length token ≤ v.verifier.limits.max_len
      → ((t : Contents) × PassesTests f v token time t × ((t.header ≡ header) × (view claims ≡ t.payload_value)))
      → SaysOf v place token time header (view claims) a
      → ((m : ℕ) → time ≤ m → further_fault v.further v.verifier.validation.leeway m (view claims) ≡ None)
      → Accepts f v token time a
  accepts place header claims a short found says holds =
      let t = found.0 in let passes = found.1 in let c : view claims ≡ t.payload_value = found.2.1 in
      let h : t.header ≡ header = found.2.0 in
      let json = payload_is_json f v.verifier.keys.keys v.verifier.validation token time t passes in
      let part = payload_is_part f v.verifier.keys.keys v.verifier.validation token time t passes in
      record {
        within = short;
        contents = t;
        accepted = (passes, rw c at says.further);
        until = last_is t a.last passes (λ m le. rw c at (holds m le)) (rw c at says.last);
        shown = rw c at (says.shown t part (rw c json));
        algorithm = rw h says.algorithm;
        has_kid = rw h says.has_kid;
      }
