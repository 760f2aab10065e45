-- From the result of the tests to the verdict.
use Rattle.std.proofs.Common.{◌≡◌, ◌⊎◌, ◌∙◌, ℕ, List, Option, Result, Ok, Err, IfOk, IfErr, ap, inl, inr, subst, sym, ⊎_elim}
use Rattle.std.specs.Prelude.{IsErrAnd}
use Rattle.std.specs.Result.{result_err}
use Rattle.serde_json.specs.View.{view}
use Rattle.serde_json.specs.declared.value.Value.{Value}
use Rattle.jwt_base.specs.KindOf.{IsMemory}
use Rattle.jwt_header.specs.declared.header.Header.{Header}
use Rattle.jwt_validation.specs.Options.{Options}
use Rattle.jsonwebtoken.specs.declared.decoding.TokenData.{TokenData}
use Rattle.jsonwebtoken.specs.declared.refusal.Refusal.{Refusal}
use Rattle.jwt_verifier.specs.declared.keys.Keys.{Keys}
use Rattle.jwt_command.specs.Accepted.{HasType, IsDecoded, IsRefusalIfAny, IsTokenRefusal, IsTypedVerdict}
use Rattle.jwt_command.specs.Commands.{ChoosesAlgorithm}
use Rattle.jwt_findings.specs.declared.refusals.TokenRefusal.{TokenRefusal}
use Rattle.jwt_findings.specs.declared.refusals.TokenRefusal.TheVariants.{Refused, OtherType}

module _ (token : List ℕ) (keys : Keys) (options : Options) (time : ℕ) (typ : Option (List ℕ)) where
  -- the result of the tests by options that are settled, unless memory ran out
  abbrev pub Tested : Result (TokenData Value) Refusal → Type 0
  Tested r = IsErrAnd r (λ refusal. IsMemory refusal.error)
      ⊎ ((settled : Options) × ChoosesAlgorithm keys token options settled × IsDecoded token keys settled time r)

  abbrev pub TypedVerdict : Result (TokenData Value) TokenRefusal → Type 0
  TypedVerdict verdict = (settled : Options) × ChoosesAlgorithm keys token options settled
      × IsTypedVerdict token keys settled time typ verdict

  -- a token that passes, by the test of its type
  pub typed : (contents : TokenData Value) (verdict : Result (TokenData Value) TokenRefusal) → Tested (Ok contents)
      → IfOk verdict (λ d. (d ≡ contents) × HasType typ contents.header)
      → IfErr verdict (λ reason. (reason ≡ OtherType) × ¬ HasType typ contents.header)
      → TypedVerdict verdict
  typed contents verdict (inl memory) accepted untyped = absurd memory
  typed contents (Ok d) (inr (settled, is, decided)) accepted untyped =
      let passed = decided.accepted in
      let header = passed.2.0 in (
        settled,
        is,
        (
          passed.0,
          (passed.1, subst (HasType typ) (sym header) accepted.1),
          header ∙ ap {A = TokenData Value} {B = Header} (λ d. d.header) (sym accepted.0),
          subst (λ (d : TokenData Value). view d.claims ≡ passed.0.payload_value) (sym accepted.0) passed.2.1,
        ),
      )
  typed contents (Err reason) (inr (settled, is, decided)) accepted untyped =
      let passed = decided.accepted in
      let header = passed.2.0 in (
        settled,
        is,
        subst (IsTokenRefusal token keys settled time typ) (sym untyped.0)
            (passed.0, passed.1, subst (λ (h : Header). ¬ HasType typ h) (sym header) untyped.1),
      )

  -- a token that is refused
  pub refused : (refusal : Refusal) (reason : TokenRefusal) → Tested (Err refusal)
      → reason ≡ Refused refusal → (¬ IsMemory refusal.error) → TypedVerdict (Err reason)
  refused refusal reason (inl memory) is other = absurd (other memory)
  refused refusal reason (inr (settled, settles, decided)) is other = (
    settled,
    settles,
    subst (IsTokenRefusal token keys settled time typ) (sym is)
        (other, ⊎_elim (λ memory. absurd (other memory)) (λ first. first) decided.refused),
  )

  -- why it is refused, if it is
  pub refusal_if_any : (settled : Options) (verdict : Result (TokenData Value) TokenRefusal)
      → IsTypedVerdict token keys settled time typ verdict
      → IsRefusalIfAny token keys settled time typ (result_err verdict)
  refusal_if_any settled (Ok d) judged = (judged.0, judged.1)
  refusal_if_any settled (Err reason) judged = judged
