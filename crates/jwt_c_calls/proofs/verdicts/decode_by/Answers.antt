use Rattle.std.proofs.Common.{◌≡◌, ◌≤◌, arith, ℕ, List, length, None, Option, Result, Err, refl, subst, sym}
use Rattle.serde_json.specs.declared.value.Value.{Value}
use Rattle.jwt_base.specs.declared.algorithms.AlgorithmFamily.{AlgorithmFamily}
use Rattle.jwt_validation.specs.Moments.{end_of_time}
use Rattle.jsonwebtoken.specs.Calls.{Carries}
use Rattle.jsonwebtoken.specs.Family.{AreOfOneFamily, family_by}
use Rattle.jsonwebtoken.specs.Own.{HasHeaderOf}
use Rattle.jsonwebtoken.specs.Refused.{DecidesByTest}
use Rattle.jsonwebtoken.specs.Tests.{Contents, token_tests}
use Rattle.jsonwebtoken.specs.declared.decoding.TokenData.{TokenData}
use Rattle.jsonwebtoken.specs.declared.refusal.Refusal.{Refusal}
use Rattle.jwt_verifier.specs.Verifying.{IsBounded, order_of, source_of}
use Rattle.jwt_verifier.specs.declared.verifier.Verifier.{Verifier}
use Rattle.jwt_verifier.specs.declared.verifier.VerifierRefusal.{VerifierRefusal}
use Rattle.jwt_verifier.specs.declared.verifier.VerifierRefusal.TheVariants.{Failed, TooLong}
use Rattle.jwt_c_calls.specs.Acceptors.{accepting}
use Rattle.jwt_c_calls.specs.Verdicts.{verifier_call}
use Rattle.jwt_c_calls.proofs.Judged.{accepted, broken, failed, too_long}
use Rattle.jwt_c_calls.proofs.verdicts.decode_by.Goals as goal

pub returns-in-Ok-clause-ok : goal.returns-in-Ok-clause-ok
returns-in-Ok-clause-ok c =
    let fits : c.args.time ≤ end_of_time = omega arith in let e = c.deref.ensures in
    accepted (accepting c.args.acceptor.now) c.args.place c.args.token.now c.args.time fits c.in-Ok.decoded
    (rw e at c.in-Ok.ensures.decided) (rw e at c.in-Ok.ensures.one_family) c.accepted_of-accepted.result
    c.accepted_of-accepted.ensures.ok

pub returns-in-Ok-clause-err : goal.returns-in-Ok-clause-err
returns-in-Ok-clause-err c =
    let e = c.deref.ensures in
    broken (accepting c.args.acceptor.now) c.args.place c.args.token.now c.args.time c.in-Ok.decoded
    (rw e at c.in-Ok.ensures.decided) (rw e at c.in-Ok.ensures.one_family) c.accepted_of-accepted.result
    c.accepted_of-accepted.ensures.err

-- the clauses of the verifier that is held
module _ (token : List ℕ) (time : ℕ) (held own : Verifier) (e : held ≡ own) (r : Result (TokenData Value) (VerifierRefusal Refusal)) where
  abbrev Is : Option AlgorithmFamily → Verifier → Type 0
  Is g v = IsBounded (DecidesByTest (token_tests (verifier_call g v.keys.keys v.validation token time)) (order_of v.keys.keys)
      (Carries (verifier_call g v.keys.keys v.validation token time))) v.limits.max_len (length token) r

  abbrev Names : Option AlgorithmFamily → Verifier → Type 0
  Names g v = (t : Contents) → HasHeaderOf token t → g ≡ family_by (source_of v.keys.keys) t.header

  by_key : ((g : Option AlgorithmFamily) → Names g held → Is g held) → (g : Option AlgorithmFamily) → Names g own → Is g own
  by_key h g by = subst (Is g) e (h g (subst (Names g) (sym e) by))

  by_one : (AreOfOneFamily held.validation.algorithms.items → Is None held) → AreOfOneFamily own.validation.algorithms.items → Is None own
  by_one h one = subst (Is None) e (h (subst (λ (v : Verifier). AreOfOneFamily v.validation.algorithms.items) (sym e) one))

pub returns-in-Err-TooLong-clause-err : goal.returns-in-Err-TooLong-clause-err
returns-in-Err-TooLong-clause-err c =
    let own = (accepting c.args.acceptor.now).verifier in
    rw c.of.ensures (
      too_long (accepting c.args.acceptor.now) c.args.place c.args.token.now c.args.time
          (by_key c.args.token.now c.args.time c.deref.result.now own c.deref.ensures (Err TooLong)
          (λ g by. rw c.in-Err-TooLong.field-0-is at (c.in-Err-TooLong.ensures.decided g by)))
          (by_one c.args.token.now c.args.time c.deref.result.now own c.deref.ensures (Err TooLong)
          (λ one. rw c.in-Err-TooLong.field-0-is at (c.in-Err-TooLong.ensures.one_family one))),
      refl,
    )

pub returns-in-Err-Failed-clause-err : goal.returns-in-Err-Failed-clause-err
returns-in-Err-Failed-clause-err c =
    let own = (accepting c.args.acceptor.now).verifier in let refusal = c.in-Err-Failed.refusal in
    failed (accepting c.args.acceptor.now) c.args.place c.args.token.now c.args.time refusal
    (by_key c.args.token.now c.args.time c.deref.result.now own c.deref.ensures (Err (Failed refusal))
    (λ g by. rw c.in-Err-Failed.field-0-is at (c.in-Err-Failed.ensures.decided g by)))
    (by_one c.args.token.now c.args.time c.deref.result.now own c.deref.ensures (Err (Failed refusal))
    (λ one. rw c.in-Err-Failed.field-0-is at (c.in-Err-Failed.ensures.one_family one))) c.reason_of.result
    c.reason_of.ensures
