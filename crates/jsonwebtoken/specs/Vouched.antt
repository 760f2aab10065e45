-- The acceptance of a token whose signature the caller has checked.
use Rattle.std.specs.Prelude.{◌≡◌, ◌⊎◌, ℕ, List, [], ◌∷◌, ◌++◌, IsTrue, Result, IfOk, IfErr, MatchResult}
use Rattle.jwt_base.specs.Algorithm.{family_of}
use Rattle.jwt_base.specs.KindOf.{kind_of, IsMemory}
use Rattle.jwt_base.specs.declared.errors.Error.{Error}
use Rattle.jwt_base.specs.declared.json.claims.Claims.{Ghosts as ClaimsOf}
use Rattle.jwt_keys.specs.Key.{Plain}
use Rattle.jwt_validation.specs.OptionsOf.{options_of}
use Rattle.jwt_validation.specs.declared.validation.Validation.{Validation}
use Rattle.jwt_crypto.specs.Verdict.{Verdict, IsVerified, refusal_by}
use Rattle.jsonwebtoken.specs.Calls.{Carries}
use Rattle.jsonwebtoken.specs.Order.{Passes, FailsFirst}
use Rattle.jsonwebtoken.specs.Tests.{Call, Compact, Given, Test, HasThreeParts, AlgorithmsAreConfigured, AlgorithmIsAllowed}
use Rattle.jsonwebtoken.specs.Tests.{AlgorithmsShareFamily, SignatureIsBase64url, Contents, token_tests, decode_order, opening_tests}
use Rattle.jsonwebtoken.specs.Tests.{claim_tests, message_of, verifying_call}
use Rattle.jsonwebtoken.specs.declared.decoding.TokenData.{TokenData}

-- the tests of `decode` that ask no provider
abbrev pub unasked_order : List Test
unasked_order = HasThreeParts ∷ opening_tests
    ++ AlgorithmsAreConfigured ∷ AlgorithmIsAllowed ∷ AlgorithmsShareFamily ∷ SignatureIsBase64url ∷ claim_tests

-- the call of `decode` with the provider of a verdict and a key of its algorithm's family
abbrev pub decoding_by_verdict : {T : Type 0} → ClaimsOf T → Verdict → List ℕ → Validation → ℕ → Call T
decoding_by_verdict claims v text validation time =
    verifying_call (Compact text) (Given (Plain (family_of v.algorithm) []))
    (options_of validation) time (refusal_by v) (λ _ _. IsVerified v) claims.reads

-- The tests that ask no provider hold, and the verdict is yes to the token's own message and signature
-- (RFC 7515 section 5.2), by the algorithm that the header names.
pub record IsVouched {T : Type 0} (call : Call T) (v : Verdict) (t : Contents) : Type 0 where
  pub tests : Passes (token_tests call) unasked_order t
  pub yes : IsTrue v.says_yes
  pub algorithm : t.header.alg ≡ v.algorithm
  pub message : message_of t.parts ≡ v.message
  pub signature : t.signature_bytes ≡ v.signature

-- The result of a call that is decided by a verdict, as `Decides` says it: contents that are vouched for stand in
-- for contents that pass every test.
pub record DecidesVouched {T : Type 0} (call : Call T) (v : Verdict) (r : Result (TokenData T) Error) : Type 0 where
  pub accepted : IfOk r (λ y. (t : Contents) × IsVouched call v t × Carries call t y)
  pub exact : (t : Contents) → IsVouched call v t → MatchResult r (Carries call t) IsMemory
  pub refused : IfErr r (λ e. IsMemory e ⊎ FailsFirst (token_tests call) decode_order (kind_of e))
