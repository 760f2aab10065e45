-- For private clauses: the relation between a step of a call that issues a token and its tests.
use Rattle.std.specs.Prelude.{◌≡◌, ◌⊎◌, ℕ, List, [], Option, Some, None, Result, Ok, Err}
use Rattle.serde_json.specs.Data.{Data}
use Rattle.serde_json.specs.Written.{compact_text}
use Rattle.jwt_base.specs.Base64Url.{IsPart}
use Rattle.jwt_base.specs.Claims.{IsCompact}
use Rattle.jwt_base.specs.Kind.{Kind}
use Rattle.jwt_base.specs.KindOf.{kind_of, IsMemory}
use Rattle.jwt_base.specs.declared.errors.Error.{Error}
use Rattle.jsonwebtoken.specs.Order.{Passes}
use Rattle.jsonwebtoken.specs.FailedAt.{FailedAt}
use Rattle.jsonwebtoken.specs.Issue.{Issue, IssueTest, HeaderIsWritten, ClaimsAreWritten, Written, AreWritten}
use Rattle.jsonwebtoken.specs.Issue.{IssueCondition, issue_tests}
use Rattle.jwt_header.specs.Header.{header_value}

-- the part that stands for the value's compact text
pub record IsPartOf (d : Data) (text : List ℕ) : Type 0 where
  pub part : IsPart text (compact_text d)
  pub compact : IsCompact d (compact_text d)

-- the same for a payload, which is empty without claims
abbrev pub IsPayloadOf : Option Data → List ℕ → Type 0
IsPayloadOf None text = text ≡ []
IsPayloadOf (Some d) text = IsPartOf d text

-- the result meets the first relation; or the kind of the error meets the second, unless memory ran out
abbrev pub Meets : {R : Type 0} → (R → Type 0) → (Kind → Type 0) → Result R Error → Type 0
Meets P Q (Ok r) = P r
Meets P Q (Err e) = IsMemory e ⊎ Q (kind_of e)

-- the condition; if it fails, the error is of one of these kinds
abbrev pub AsksFor : {R : Type 0} → Type 0 → (Kind → Type 0) → Result R Error → Type 0
AsksFor P K = Meets (λ _. P) (λ k. (P → ⊥) × K k)

module _ (issue : Issue) where
  -- the test fails at these values, whatever the value that it looks for
  abbrev pub IssueFailsAt : IssueTest → Written → Type 0
  IssueFailsAt HeaderIsWritten t = (d : Data) → header_value issue.header ≡ Some d → ⊥
  IssueFailsAt ClaimsAreWritten t = (v : Option Data) → AreWritten issue.payload v → ⊥
  IssueFailsAt c t = IssueCondition issue c t → ⊥

  abbrev pub IssueFailed : List IssueTest → Written → Kind → Type 0
  IssueFailed = FailedAt (issue_tests issue) IssueFailsAt

  -- The meaning of a result for these tests: some values pass them, and the result shows them; or
  -- some pass them up to one that fails, unless memory ran out.
  abbrev pub IssueStep : {R : Type 0} → List IssueTest → (Written → R → Type 0)
      → Result R Error → Type 0
  IssueStep order Shows = Meets (λ r. (t : Written) × Passes (issue_tests issue) order t × Shows t r)
      (λ k. (t : Written) × IssueFailed order t k)
