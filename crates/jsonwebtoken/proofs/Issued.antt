-- The tests of a token that is to be issued, and how its text is read back.
use Rattle.std.proofs.Common.{◌≡◌, ℕ, List, [], ◌∷◌, Bool, true, ◌&&◌, Option, Some, None, slice_get, refl, sym, ◌∙◌, Result}
use Rattle.serde_json.specs.Data.{Data}
use Rattle.serde_json.specs.Written.{compact_text}
use Rattle.jwt_base.specs.declared.algorithms.Algorithm.{Algorithm}
use Rattle.jwt_base.specs.declared.errors.Error.{Error}
use Rattle.jwt_keys.specs.Key.{Key}
use Rattle.jwt_header.specs.Header.{ReadsHeader, header_value}
use Rattle.jwt_header.specs.HeaderWritten.{normal_header, HasNormalForm}
use Rattle.jsonwebtoken.specs.Order.{Decides, Passes}
use Rattle.jsonwebtoken.specs.Issue.{Payload, NoClaims, WrittenAs, Issue, IssueTest, KeyIsOfFamily, SignerIsMade}
use Rattle.jsonwebtoken.specs.Issue.{HeaderIsWritten, ClaimsAreWritten, MessageIsSigned, Written, AreWritten}
use Rattle.jsonwebtoken.specs.Issue.{payload_part, IssueCondition, AreIssued, ReadsBack, issue_tests}
use Rattle.jsonwebtoken.specs.private_clauses.IssueSteps.{IsPartOf, IsPayloadOf, IssueFailsAt, IssueStep}
use Rattle.jsonwebtoken.specs.Tests.{Parts, Contents, text_of_parts}
use Rattle.jsonwebtoken.specs.private_clauses.Steps.{no_contents}
use Rattle.jsonwebtoken.proofs.Ascii.{message_bytes}
use Rattle.jsonwebtoken.proofs.Dots.{are_parts}
use Rattle.jsonwebtoken.proofs.Engine as engine

-- ---- the orders

abbrev number : IssueTest → ℕ
number KeyIsOfFamily = 0
number SignerIsMade = 1
number HeaderIsWritten = 2
number ClaimsAreWritten = 3
number MessageIsSigned = 4

abbrev every_test : List IssueTest
every_test = KeyIsOfFamily ∷ SignerIsMade ∷ HeaderIsWritten ∷ ClaimsAreWritten ∷ MessageIsSigned ∷ []

at_number : (c : IssueTest) → slice_get every_test (number c) ≡ Some c
at_number = elim [
  | KeyIsOfFamily ↦ refl
  | SignerIsMade ↦ refl
  | HeaderIsWritten ↦ refl
  | ClaimsAreWritten ↦ refl
  | MessageIsSigned ↦ refl
]

-- these tests make known the values that are written
abbrev pub written_known : List IssueTest → Bool
written_known b = engine.has number HeaderIsWritten b && engine.has number ClaimsAreWritten b

abbrev ready : IssueTest → List IssueTest → Bool
ready KeyIsOfFamily b = true
ready SignerIsMade b = true
ready HeaderIsWritten b = true
ready ClaimsAreWritten b = true
ready MessageIsSigned b = written_known b

-- each test of the order stands after those that it rests on
abbrev pub is_sound : List IssueTest → Bool
is_sound = engine.is_well_ordered ready

-- claims are written as one value at most
one_value : (p : Payload) (v w : Option Data) → AreWritten p v → AreWritten p w → v ≡ w
one_value NoClaims v w a b = a ∙ sym b
one_value (WrittenAs x) v w a b =
    let same : Some a.0 ≡ Some b.0 = sym a.2 ∙ b.2 in
    a.1 ∙ same ∙ sym b.1

module _ (issue : Issue) where
  met : (b : List IssueTest) (t : Written) → Passes (issue_tests issue) b t → (c : IssueTest) → engine.has number c b
      ≡ true → IssueCondition issue c t
  met = engine.holds_of number (issue_tests issue) every_test at_number

  -- values that pass the tests of the written values are the same
  pub one_written : (b : List IssueTest) (t s : Written) → written_known b ≡ true → Passes (issue_tests issue) b t
      → Passes (issue_tests issue) b s → t ≡ s
  one_written b t s e p q =
      let k = engine.both_true (engine.has number HeaderIsWritten b) (engine.has number ClaimsAreWritten b) e in
      let both : Some t.header_value ≡ Some s.header_value = sym (met b t p HeaderIsWritten k.0)
      ∙ met b s q HeaderIsWritten k.0 in
      let headers : t.header_value ≡ s.header_value = cc in
      let values : t.claims_value ≡ s.claims_value = one_value issue.payload _ _ (met b t p ClaimsAreWritten k.1)
      (met b s q ClaimsAreWritten k.1) in
      λ i. record { header_value = headers i; claims_value = values i }

  fails_for : (b : List IssueTest) (t s : Written) → Passes (issue_tests issue) b t → Passes (issue_tests issue) b s
      → (c : IssueTest) → ready c b ≡ true → IssueFailsAt issue c t → IssueCondition issue c s → ⊥
  fails_for b t s p q KeyIsOfFamily e none h = none h
  fails_for b t s p q SignerIsMade e none h = none h
  fails_for b t s p q HeaderIsWritten e none h = none s.header_value h
  fails_for b t s p q ClaimsAreWritten e none h = none s.claims_value h
  fails_for b t s p q MessageIsSigned e none h = none (rw (one_written b t s e p q) h)

  -- a result of an order, as the clauses describe it
  module _ {R : Type 0} (order : List IssueTest) (sound : is_sound order ≡ true) (shows : Written → R → Type 0)
      (r : Result R Error) (m : IssueStep issue order shows r) where
    pub issue_decides : written_known order ≡ true → Decides (issue_tests issue) order shows r
    issue_decides known = engine.decides (issue_tests issue) (IssueFailsAt issue) ready fails_for order sound shows r m
        (λ s t y p q h. rw (one_written order t s known q p) h)

-- ---- the text

-- an issued token reads as the header's normal form and the claims' value
module _ (issue : Issue) (accepts : Algorithm → Key → List ℕ → List ℕ → Type 0) (t : Written) (c : Parts)
    (normal : HasNormalForm issue.header)
    (written : header_value issue.header ≡ Some t.header_value) (header : IsPartOf t.header_value c.header) where
  contents_of : AreIssued issue t c → Data → Contents
  contents_of a v = record no_contents {
    parts = c;
    header_bytes = compact_text t.header_value;
    header_value = t.header_value;
    header = normal_header issue.header;
    signature_bytes = a.bytes;
    payload_bytes = compact_text v;
    payload_value = v;
  }

  pub read_back : AreIssued issue t c → IsPayloadOf t.claims_value c.payload → ReadsBack issue accepts t (text_of_parts c)
  unfolding contents_of
  read_back a claims v is deep_h deep_v =
      let payload : IsPartOf v c.payload = rw is at claims in
      let parts = are_parts c (compact_text t.header_value) (compact_text v) a.bytes header.part payload.part a.signature in
      let reads : ReadsHeader t.header_value (normal_header issue.header) =
      (normal.reads_back t.header_value written (normal_header issue.header)).1 refl in
      record {
        contents = contents_of a v;
        passed = (
          parts,
          (
            header.part,
            (
              header.compact.reads_back deep_h,
              (reads, (a.signature, (payload.part, (payload.compact.reads_back deep_v, tt)))),
            ),
          ),
        );
        header = refl;
        claims = refl;
        accepted = λ key law. law _ _ (message_bytes c _ _ header.part payload.part) a.signature.0 a.signed;
      }

-- the part of a payload
pub is_payload_part : (v : Option Data) (text : List ℕ) → IsPayloadOf v text → text ≡ payload_part v
is_payload_part None text e = e
is_payload_part (Some d) text p = p.part.1
