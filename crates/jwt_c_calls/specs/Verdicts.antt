-- The result of the call for C that verifies a token with what a handle holds.
use Rattle.std.specs.Prelude.{◌≡◌, ◌⊎◌, ◌↔◌, ◌≤◌, ◌<◌, ◌++◌, ℕ, List, [], ◌∷◌, Bool, false, length, All, Option, None, Some, ⊤}
use Rattle.std.specs.Prelude.{◌||◌, suc, nat_lt, is_some, MatchOption, if◌then◌else◌}
use Rattle.std.specs.List.{list_any}
use Rattle.serde_json.specs.Data.{Data}
use Rattle.serde_json.specs.declared.value.Value.{Value}
use Rattle.jwt_base.specs.Claims.{IsValue}
use Rattle.jwt_base.specs.JsonText.{IsJson}
use Rattle.jwt_base.specs.Kind.{Kind}
use Rattle.jwt_base.specs.Kind as kind
use Rattle.jwt_base.specs.KindOf.{kind_of, IsMemory}
use Rattle.jwt_base.specs.declared.algorithms.AlgorithmFamily.{AlgorithmFamily}
use Rattle.jwt_further.specs.Further.{further_fault}
use Rattle.jwt_further.specs.declared.FurtherFault.{FurtherFault}
use Rattle.jwt_standard.specs.StandardKeys.{verifier_refusal, StandardAccepts}
use Rattle.jwt_header.specs.declared.header.Header.{Header}
use Rattle.jwt_validation.specs.Claim.{claims_of}
use Rattle.jwt_validation.specs.Moments.{end_of_time, last_moment}
use Rattle.jwt_validation.specs.OptionsOf.{options_of}
use Rattle.jwt_validation.specs.declared.validation.Validation.{Validation}
use Rattle.jsonwebtoken.specs.Family.{AreOfOneFamily, family_by, with_family}
use Rattle.jsonwebtoken.specs.Own.{HasHeaderOf}
use Rattle.jsonwebtoken.specs.Order.{Passes, IsFirstFailed}
use Rattle.jsonwebtoken.specs.Tests.{Call, Compact, Contents, header_call, payload_bytes_order, token_tests, verifying_call}
use Rattle.jsonwebtoken.specs.declared.refusal.Refusal.{Refusal}
use Rattle.jsonwebtoken.specs.declared.refusal.Test.{Test}
use Rattle.jwt_verifier.specs.Verifying.{source_of, order_of}
use Rattle.jwt_verifier.specs.declared.keys.Keys.{Keys}
use Rattle.jwt_verifier.specs.declared.verifier.Verifier.{Verifier}
use Rattle.jwt_c_calls.specs.Acceptors.{Accepting}
use Rattle.jwt_c_calls.specs.AsSigned.{IsShownAs}
use Rattle.jwt_c_calls.specs.Contents.{acceptors_in}
use Rattle.jwt_c_calls.specs.Status.{number, algorithm_numbered, further_claim, further_status, no_verifier, token_too_long}
use Rattle.jwt_c_calls.specs.Status.{IsGiven, IsKept}
use Rattle.jwt_c_calls.specs.TestNumbers.{further_test, test_number}
use Rattle.jwt_c_calls.specs.declared.content.Content.{Content}
use Rattle.jwt_c_calls.specs.declared.verdicts.Accepted.{Accepted}
use Rattle.jwt_c_calls.specs.declared.verdicts.TokenRefusal.{TokenRefusal}
use Rattle.jwt_c_calls.specs.declared.verdicts.Unaccepted.{Unaccepted}
use Rattle.jwt_c_calls.specs.declared.verdicts.Unaccepted.TheVariants.{Memory, Refused}
use Rattle.jwt_c_calls.specs.declared.verdicts.Verdict.{Verdict}

-- ---- by one verifier

-- The family whose algorithms count: that of the key of the token, by its header; or none is named, since the listed
-- algorithms are all of one family.
abbrev pub IsFamilyFor : Verifier → List ℕ → Option AlgorithmFamily → Type 0
IsFamilyFor v token f = ((t : Contents) → HasHeaderOf token t → f ≡ family_by (source_of v.keys.keys) t.header)
    ⊎ ((f ≡ None) × AreOfOneFamily v.validation.algorithms.items)

-- `decode` or `decode_with_set` by all twelve algorithms, with these keys and options, and of the listed algorithms those
-- of this family
abbrev pub verifier_call : Option AlgorithmFamily → Keys → Validation → List ℕ → ℕ → Call Value
verifier_call f keys validation token time = with_family
    (verifying_call (Compact token) (source_of keys) (options_of validation) time verifier_refusal StandardAccepts IsValue) f

-- a refusal by the verifier at this place, with this status, by the test of this number, and with the place of a claim's name
abbrev pub refusal_of : ℕ → ℕ → ℕ → ℕ → TokenRefusal
refusal_of place status test claim =
    record { place = place; status = status; test = test; claim = claim; has_kid = false }

-- if no key is found, a refusal says whether the header has a `kid`
abbrev pub TellsKid : List ℕ → Kind → Bool → Type 0
TellsKid token k has_kid = ((k ≡ kind.NoKey) × ((t : Contents) → HasHeaderOf token t → has_kid ≡ is_some t.header.kid))
    ⊎ ((¬ (k ≡ kind.NoKey)) × (has_kid ≡ false))

module _ (f : Option AlgorithmFamily) (v : Accepting) (token : List ℕ) where
  -- the contents pass every test of the call
  abbrev pub PassesTests : ℕ → Contents → Type 0
  PassesTests time = Passes (token_tests (verifier_call f v.verifier.keys.keys v.verifier.validation token time))
      (order_of v.verifier.keys.keys)

  -- the first further rule that the contents do not meet
  abbrev pub broken_rule : ℕ → Contents → Option FurtherFault
  broken_rule time t = further_fault v.further v.verifier.validation.leeway time t.payload_value

  -- they pass every test, and meet the further rules
  abbrev pub IsAccepted : ℕ → Contents → Type 0
  IsAccepted time t = PassesTests time t × (broken_rule time t ≡ None)

  -- from this time on, they are accepted exactly up to the last one (RFC 7519 section 4.1.4)
  abbrev pub IsLast : ℕ → Contents → ℕ → Type 0
  IsLast time t last = (m : ℕ) → time ≤ m → m ≤ end_of_time → IsAccepted m t ↔ (m ≤ last)

  -- what is said of an accepted token: its payload, the algorithm of its header, and whether that has a `kid`
  pub record Accepts (time : ℕ) (said : Accepted) : Type 0 where
    pub within : length token ≤ v.verifier.limits.max_len
    pub contents : Contents
    pub accepted : IsAccepted time contents
    pub until : IsLast time contents said.last
    pub shown : IsShownAs contents.payload_bytes contents.payload_value said.text.items said.as_signed
    pub algorithm : said.algorithm ≡ contents.header.alg
    pub has_kid : said.has_kid ≡ is_some contents.header.kid

  -- a test fails, the first of the order, with this kind
  pub record FailsTest (time : ℕ) (said : TokenRefusal) : Type 0 where
    pub test : Test
    pub first : IsFirstFailed (token_tests (verifier_call f v.verifier.keys.keys v.verifier.validation token time))
        (order_of v.verifier.keys.keys) test
    pub of_kind : Kind
    pub kind : (token_tests (verifier_call f v.verifier.keys.keys v.verifier.validation token time)).has_kind test
        first.contents of_kind
    pub status : said.status ≡ number of_kind
    pub number : said.test ≡ test_number test
    pub claim : said.claim ≡ 0
    pub has_kid : TellsKid token of_kind said.has_kid

  -- every test holds, and a further rule fails, which is the first of them
  pub record BreaksRule (time : ℕ) (said : TokenRefusal) : Type 0 where
    pub contents : Contents
    pub passes : PassesTests time contents
    pub rule : FurtherFault
    pub first : broken_rule time contents ≡ Some rule
    pub said_so : said ≡ refusal_of said.place (further_status rule) further_test (further_claim rule)

  -- why a token is refused: it is too long, and nothing of it is read; or a test fails, or a further rule
  abbrev pub Refuses : ℕ → TokenRefusal → Type 0
  Refuses time said =
      ((v.verifier.limits.max_len < length token) × (said ≡ refusal_of said.place token_too_long 0 0))
      ⊎ ((length token ≤ v.verifier.limits.max_len) × (FailsTest time said ⊎ BreaksRule time said))

-- ---- by one or several

module _ (token : List ℕ) (time : ℕ) where
  -- the one accepts, or refuses, whichever family counts
  abbrev pub AcceptsToken : Accepting → Accepted → Type 0
  AcceptsToken v said = (f : Option AlgorithmFamily) → IsFamilyFor v.verifier token f → Accepts f v token time said

  abbrev pub RefusesToken : Accepting → TokenRefusal → Type 0
  RefusesToken v said = (f : Option AlgorithmFamily) → IsFamilyFor v.verifier token f → Refuses f v token time said

  -- one accepts, and each before it refuses; the first has this place
  abbrev pub AcceptsFirst : ℕ → List Accepting → Accepted → Type 0
  AcceptsFirst place [] said = ⊥
  AcceptsFirst place (v ∷ vs) said = (AcceptsToken v said × (said.place ≡ place))
      ⊎ (((why : TokenRefusal) × RefusesToken v why) × AcceptsFirst (suc place) vs said)

  -- each refuses, with these refusals; the first has this place
  abbrev pub RefuseAll : ℕ → List Accepting → List TokenRefusal → Type 0
  RefuseAll place [] [] = ⊤
  RefuseAll place [] (why ∷ whys) = ⊥
  RefuseAll place (v ∷ vs) [] = ⊥
  RefuseAll place (v ∷ vs) (why ∷ whys) = RefusesToken v why × (why.place ≡ place) × RefuseAll (suc place) vs whys

-- the refusal whose test comes last, and the first of these
pub record IsLatest (whys : List TokenRefusal) (why : TokenRefusal) : Type 0 where
  pub before : List TokenRefusal
  pub after : List TokenRefusal
  pub among : whys ≡ before ++ why ∷ after
  pub earlier : All (λ w. w.test < why.test) before
  pub no_later : All (λ w. w.test ≤ why.test) after

-- the latest of some refusals; it says whether the header has a `kid` if one of them does
abbrev pub IsToldOf : List TokenRefusal → TokenRefusal → Type 0
IsToldOf whys said = (why : TokenRefusal) × IsLatest whys why
    × (said ≡ record why { has_kid = list_any (λ w. w.has_kid) whys })

-- each refuses, and the refusal is the one whose test comes last
abbrev pub RefusesLast : List ℕ → ℕ → List Accepting → TokenRefusal → Type 0
RefusesLast token time vs said = (whys : List TokenRefusal) × RefuseAll token time 0 vs whys × IsToldOf whys said

-- ---- by what a handle holds

-- the verifiers of a handle accept the token
abbrev pub AcceptsIn : Option Content → List ℕ → ℕ → Accepted → Type 0
AcceptsIn held token time said = MatchOption (acceptors_in held) ⊥ (λ vs. AcceptsFirst token time 0 vs said)

-- they refuse it, or memory ran out, or the handle holds none
abbrev pub RefusesIn : Option Content → List ℕ → ℕ → TokenRefusal → Type 0
RefusesIn held token time said = MatchOption (acceptors_in held) (said ≡ refusal_of 0 no_verifier 0 0)
    (λ vs. (said ≡ refusal_of 0 (number kind.OutOfMemory) 0 0) ⊎ RefusesLast token time vs said)

-- 1 if it is so
abbrev pub bit : Bool → ℕ
bit b = if b then 1 else 0

-- what stands in `struct jwt_verdict`
pub record TellsAccepted (a : Accepted) (said : Verdict) : Type 0 where
  pub last : said.last ≡ a.last
  pub verifier : said.verifier ≡ a.place
  pub algorithm : algorithm_numbered said.algorithm ≡ Some a.algorithm
  pub test : said.test ≡ 0
  pub claim : said.claim ≡ 0
  pub has_kid : said.has_kid ≡ bit a.has_kid
  pub as_signed : said.as_signed ≡ bit a.as_signed

pub record TellsRefused (why : TokenRefusal) (said : Verdict) : Type 0 where
  pub last : said.last ≡ 0
  pub verifier : said.verifier ≡ why.place
  pub algorithm : said.algorithm ≡ 0
  pub test : said.test ≡ why.test
  pub claim : said.claim ≡ why.claim
  pub has_kid : said.has_kid ≡ bit why.has_kid
  pub as_signed : said.as_signed ≡ 0

-- the result of `jwt_verifier_decode`: what is said of an accepted token, and its claims in the buffer; or a refusal
abbrev pub LeavesVerdict : Option Content → List ℕ → ℕ → Verdict → ℕ → List ℕ → List ℕ → Type 0
LeavesVerdict held token time said status before after =
    ((a : Accepted) × AcceptsIn held token time a × TellsAccepted a said × IsGiven a.text.items status said.len before after)
    ⊎ ((why : TokenRefusal) × RefusesIn held token time why × TellsRefused why said
    × IsKept why.status status said.len before after)

-- ---- for private clauses

-- this is so of a refusal, unless memory ran out
abbrev pub IfRefused : (TokenRefusal → Type 0) → Unaccepted → Type 0
IfRefused Is (Refused why) = Is why
IfRefused Is Memory = ⊤

-- what is said of a token whose header and claims these are, if it is accepted
pub record SaysOf (v : Accepting) (place : ℕ) (token : List ℕ) (time : ℕ) (header : Header) (claims : Data) (said : Accepted) : Type 0 where
  pub further : further_fault v.further v.verifier.validation.leeway time claims ≡ None
  pub later : (m : ℕ) → time ≤ m → further_fault v.further v.verifier.validation.leeway m claims ≡ None
  pub shown : (t : Contents) → Passes (token_tests (header_call token)) payload_bytes_order t → IsJson t.payload_bytes claims
      → IsShownAs t.payload_bytes claims said.text.items said.as_signed
  pub at : said.place ≡ place
  pub last : said.last ≡ last_moment (options_of v.verifier.validation) (claims_of claims)
  pub algorithm : said.algorithm ≡ header.alg
  pub has_kid : said.has_kid ≡ is_some header.kid

-- the first further rule that these claims do not meet
abbrev pub BreaksOf : Accepting → ℕ → ℕ → Data → TokenRefusal → Type 0
BreaksOf v place time claims why = (rule : FurtherFault)
    × (further_fault v.further v.verifier.validation.leeway time claims ≡ Some rule)
    × (why ≡ refusal_of place (further_status rule) further_test (further_claim rule))

-- the reason that a refusal is
abbrev pub IsReason : List ℕ → ℕ → Refusal → Unaccepted → Type 0
IsReason token place refusal Memory = ⊤
IsReason token place refusal (Refused why) = (why.place ≡ place) × (¬ IsMemory refusal.error) × (why.status ≡ number (kind_of refusal.error))
    × (why.test ≡ test_number refusal.test) × (why.claim ≡ 0) × TellsKid token (kind_of refusal.error) why.has_kid

-- the one whose test comes later, or the first
abbrev pub later : TokenRefusal → TokenRefusal → TokenRefusal
later first second = record (if nat_lt first.test second.test then second else first)
    { has_kid = first.has_kid || second.has_kid }

-- the refusal of the call: memory ran out, or it is this one
abbrev pub told : Unaccepted → TokenRefusal
told Memory = refusal_of 0 (number kind.OutOfMemory) 0 0
told (Refused why) = why
