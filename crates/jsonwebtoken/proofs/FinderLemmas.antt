-- The tests of a token by the key that a finder finds, whichever its source.
use Rattle.std.proofs.Common.{◌≡◌, ◌⊎◌, ◌↔◌, ℕ, List, [], ◌∷◌, Option, None, Result, Ok, Err, inl, inr, refl, subst, sym}
use Rattle.std.specs.Prelude.{IsErrAnd}
use Rattle.jwt_base.specs.Algorithm.{family_of}
use Rattle.jwt_base.specs.Kind.{Kind, InvalidToken}
use Rattle.jwt_base.specs.KindOf.{kind_of, IsMemory}
use Rattle.jwt_base.specs.declared.algorithms.Algorithm.{Algorithm}
use Rattle.jwt_base.specs.declared.errors.Error.{Error}
use Rattle.jwt_header.specs.declared.header.Header.{Header}
use Rattle.jwt_keys.specs.Key.{Key, key_family}
use Rattle.jwt_validation.specs.ClaimRules.{Holds, IsRuleFault, RulesHold, broken, missing}
use Rattle.jwt_validation.specs.Claim.{claims_of}
use Rattle.jwt_validation.specs.Options.{Options}
use Rattle.jwt_validation.specs.declared.rules.Rule.{Rule}
use Rattle.jwt_validation.specs.declared.rules.Rule.TheVariants.{ExpFormat, NbfFormat, ExpReject, ExpTime, NbfTime}
use Rattle.jwt_validation.specs.declared.rules.Rule.TheVariants.{Subject, Issuer, Audience}
use Rattle.serde_json.specs.Data.{Data}
use Rattle.jsonwebtoken.specs.Calls.{Carries}
use Rattle.jsonwebtoken.specs.Finder.{IsOwnOf, finding_tests, looking_by, order_by, own_by, tests_after_header}
use Rattle.jsonwebtoken.specs.Laws.{HasLaws}
use Rattle.jsonwebtoken.specs.Order.{Passes}
use Rattle.jsonwebtoken.specs.Own.{HasHeaderOf, with_algorithms}
use Rattle.jsonwebtoken.specs.Refused.{DecidesByTest}
use Rattle.jsonwebtoken.specs.Tests.{ArePartsOf, Call, Compact, Contents, Given, HasThreeParts, InSet, KeySource, Parts}
use Rattle.jsonwebtoken.specs.Tests.{Test, claim_tests, decode_order, header_call, header_tests}
use Rattle.jsonwebtoken.specs.Tests.{Token, key_of, set_order, token_tests, verifying_tests}
use Rattle.jsonwebtoken.specs.declared.decoding.TokenData.{TokenData}
use Rattle.jsonwebtoken.specs.declared.refusal.Refusal.{Refusal}
use Rattle.jsonwebtoken.specs.private_clauses.Asking.{given_key}
use Rattle.jsonwebtoken.specs.private_clauses.Refused.{tested}
use Rattle.jsonwebtoken.specs.Steps.{Failed, Step}
use Rattle.jsonwebtoken.specs.private_clauses.Steps.{bare, no_contents, verifying_by, whole, with_header}
use Rattle.jsonwebtoken.specs.private_clauses.Steps.{with_header_part, with_opening}
use Rattle.jsonwebtoken.proofs.EachTest.{decides, same_answer}
use Rattle.jsonwebtoken.proofs.Exits.{beside_claims, exit_noting, no_claims, opened, opened_passes, or_memory, stop}
use Rattle.jsonwebtoken.proofs.LawsOf.{fixes, key_fits, looser, moments, named_key, one_text}
use Rattle.jsonwebtoken.proofs.OwnLemmas.{no_header}

-- ---- the key

module _ {T : Type 0} (call : Call T) where
  -- contents with the key that was found pass the tests of it
  pub found_passes : (keys : KeySource) (p : Parts) (h : Header) (n x : Contents)
      → Passes (token_tests (looking_by keys)) (finding_tests keys) (with_header h n)
      → Passes (token_tests (record call { keys = keys })) (finding_tests keys)
      (with_opening p h (record x { jwk = n.jwk; jwk_key = n.jwk_key }))
  found_passes (Given k) p h n x held = tt
  found_passes (InSet ks) p h n x held = held

  pub found_failed : (keys : KeySource) (p : Parts) (h : Header) (n : Contents) (f : Test) (k : Kind)
      → Failed (looking_by keys) (finding_tests keys) (with_header h n) f k
      → Failed (record call { keys = keys }) (finding_tests keys) (with_opening p h n) f k
  found_failed (Given key) p h n f k s = absurd s
  found_failed (InSet ks) p h n f k s = s

  -- the same by another name of the key
  pub failed_by_key : (order : List Test) (x : Contents) (f : Test) (k : Kind) (a b : Key) → a ≡ b
      → Failed (given_key call b) order x f k → Failed (given_key call a) order x f k
  failed_by_key order x f k a b same s = subst (λ (j : Key). Failed (given_key call j) order x f k) (sym same) s

  pub passes_by_key : (order : List Test) (x : Contents) (a b : Key) → a ≡ b
      → Passes (token_tests (given_key call b)) order x → Passes (token_tests (given_key call a)) order x
  passes_by_key order x a b same p = subst (λ (j : Key). Passes (token_tests (given_key call j)) order x) (sym same) p

  -- The tests after those of the header depend neither on the token's text nor on the header's bytes. These contents
  -- have the latter of y.
  abbrev pub after : Parts → Header → Contents → Contents → Contents
  after p h y x = record y {
    parts = p;
    header = h;
    jwk = x.jwk;
    jwk_key = x.jwk_key;
    signature_bytes = x.signature_bytes;
    payload_bytes = x.payload_bytes;
    payload_value = x.payload_value;
  }

  pub passes_after : (keys : KeySource) (token : Token) (p : Parts) (h : Header) (y x : Contents)
      → Passes (token_tests (record call { keys = keys; token = Compact [] })) (tests_after_header keys) (with_opening p h x)
      → Passes (token_tests (record call { keys = keys; token = token })) (tests_after_header keys) (after p h y x)
  passes_after (Given k) token p h y x held = held
  passes_after (InSet ks) token p h y x held = held

  pub failed_after : (keys : KeySource) (token : Token) (p : Parts) (h : Header) (y x : Contents) (f : Test) (k : Kind)
      → Failed (record call { keys = keys; token = Compact [] }) (tests_after_header keys) (with_opening p h x) f k
      → Failed (record call { keys = keys; token = token }) (tests_after_header keys) (after p h y x) f k
  failed_after (Given key) token p h y x f k s = s
  failed_after (InSet ks) token p h y x f k s = s

-- ---- the algorithms

-- the algorithms that are accepted are no matter of the claim rules
module _ (o : Options) (algorithms : List Algorithm) (d : Data) (time : ℕ) where
  keeps : (r : Rule) → Holds o (claims_of d) time r
      → Holds (with_algorithms o algorithms) (claims_of d) time r
  keeps ExpFormat h = h
  keeps NbfFormat h = h
  keeps ExpReject h = h
  keeps ExpTime h = h
  keeps NbfTime h = h
  keeps Subject h = h
  keeps Issuer h = h
  keeps Audience h = h

  kept : (r : Rule) → Holds (with_algorithms o algorithms) (claims_of d) time r
      → Holds o (claims_of d) time r
  kept ExpFormat h = h
  kept NbfFormat h = h
  kept ExpReject h = h
  kept ExpTime h = h
  kept NbfTime h = h
  kept Subject h = h
  kept Issuer h = h
  kept Audience h = h

  pub rules_with : RulesHold o d time → RulesHold (with_algorithms o algorithms) d time
  rules_with h = record { required = h.required; rules = λ r. keeps r (h.rules r) }

  pub rules_without : RulesHold (with_algorithms o algorithms) d time → RulesHold o d time
  rules_without h = record { required = h.required; rules = λ r. kept r (h.rules r) }

  pub fault_with : (k : Kind) → IsRuleFault o d time k → IsRuleFault (with_algorithms o algorithms) d time k
  fault_with k (missing n is) = missing n is
  fault_with k (broken none r first) = broken none r
      (record { fails = λ h. first.fails (kept r h); before = λ q l. keeps q (first.before q l) })

-- one verifier's results are the other's, with these algorithms
module _ {T : Type 0} (call : Call T) (o : Options) (algorithms : List Algorithm) (A : List ℕ → List ℕ → Type 0)
    (t : Contents) (same : (m s : List ℕ) → A m s ↔ call.accepts t.header.alg (key_of call.keys t.jwk_key) m s) where
  abbrev by_verifier : Call T
  by_verifier = verifying_by call.reads o call.time A

  abbrev listing : Call T
  listing = record call { options = with_algorithms o algorithms }

  pub listed_passes : Passes (token_tests by_verifier) verifying_tests t → Passes (token_tests listing) verifying_tests t
  listed_passes p = (
    p.0,
    (
      (same _ _).0 p.1.0,
      (
        p.1.1.0,
        (p.1.1.1.0, (p.1.1.1.1.0, (p.1.1.1.1.1.0, (rules_with o algorithms t.payload_value call.time p.1.1.1.1.1.1.0, tt)))),
      ),
    ),
  )

  claims_failed : (f : Test) (k : Kind) → Failed by_verifier claim_tests t f k → Failed listing claim_tests t f k
  claims_failed f k (inl s) = inl s
  claims_failed f k (inr (a, inl s)) = inr (a, inl s)
  claims_failed f k (inr (a, inr (b, inl s))) = inr (a, inr (b, inl s))
  claims_failed f k (inr (a, inr (b, inr (c, inl s)))) = inr (a, inr (b, inr (c, inl s)))
  claims_failed f k (inr (a, inr (b, inr (c, inr (d, inl s))))) =
      inr (
        a,
        inr (
          b,
          inr (
            c,
            inr (
              d,
              inl (
                (λ h. s.0 (rules_without o algorithms t.payload_value call.time h)),
                (s.1.0, fault_with o algorithms t.payload_value call.time k s.1.1),
              ),
            ),
          ),
        ),
      )
  claims_failed f k (inr (a, inr (b, inr (c, inr (d, inr (e, s)))))) = absurd s

  pub listed_failed : (f : Test) (k : Kind) → Failed by_verifier verifying_tests t f k
      → Failed listing verifying_tests t f k
  listed_failed f k (inl s) = inl s
  listed_failed f k (inr (h, inl s)) = inr (h, inl ((λ x. s.0 ((same _ _).1 x)), s.1))
  listed_failed f k (inr (h, inr (a, s))) = inr (h, inr ((same _ _).0 a, claims_failed f k s))

-- ---- the key's own algorithm

own_is : (keys : KeySource) (token : List ℕ) (t : Contents) → HasHeaderOf token t → IsOwnOf keys token (own_by keys t.header)
own_is (Given k) token t p = refl
own_is (InSet ks) token t p = inl (t, p, refl)

no_own_is : (keys : KeySource) (token : List ℕ) → ((t : Contents) → ¬ HasHeaderOf token t) → IsOwnOf keys token None
no_own_is (Given k) token none = refl
no_own_is (InSet ks) token none = inr (refl, none)

-- a token that has no three parts, or whose header does not read, has none
pub none_of_cut : (keys : KeySource) (token : List ℕ) (e : Error) {A : Type 0}
    → IsMemory e ⊎ (((p : Parts) → ¬ ArePartsOf token p) × A)
    → IsOwnOf keys token None ⊎ IsMemory e
none_of_cut keys token e (inl m) = inr m
none_of_cut keys token e (inr f) = inl (no_own_is keys token (λ t p. f.0 t.parts p.0))

pub none_of_header : (keys : KeySource) (token : List ℕ) (parts : Parts) → ArePartsOf token parts → (c : Test) (e : Error)
    → IsMemory e ⊎ ((x : Contents) × Failed bare header_tests (with_header_part parts.header x) c (kind_of e))
    → IsOwnOf keys token None ⊎ IsMemory e
none_of_header keys token parts has c e (inl m) = inr m
none_of_header keys token parts has c e (inr f) = inl (no_own_is keys token (no_header token parts has c (kind_of e) f))

-- the one that is found is that of the key which the header names
pub own_of_opened : (keys : KeySource) (token : List ℕ) (parts : Parts) (h : Header) (own : Option Algorithm)
    → (x : Contents) × Passes (token_tests bare) header_tests (with_header_part parts.header x) × (x.header ≡ h)
    → ArePartsOf token parts → own ≡ own_by keys h → IsOwnOf keys token own
own_of_opened keys token parts h own read has found =
    subst (IsOwnOf keys token) (sym found) (own_is keys token (opened (header_call token) parts h read has no_contents)
    (opened_passes (header_call token) parts h read has no_contents))

-- ---- what is decided, and its laws

module _ {T : Type 0} (call : Call T) where
  pub decides_by : (keys : KeySource) (r : Result (TokenData T) Refusal)
      → Step (record call { keys = keys }) (order_by keys) whole (Carries call) r
      → DecidesByTest (token_tests (record call { keys = keys })) (order_by keys) (Carries call) r
  decides_by (Given k) r step =
      let by = record call { keys = Given k } in
      decides by decode_order refl (Carries call) r step
      (same_answer by decode_order refl refl (λ r. r.header) (λ r v. call.reads v r.claims))
  decides_by (InSet ks) r step =
      let by = record call { keys = InSet ks } in
      decides by set_order refl (Carries call) r step
      (same_answer by set_order refl refl (λ r. r.header) (λ r v. call.reads v r.claims))

  pub laws_by : (keys : KeySource) (token : List ℕ)
      → ((a : Algorithm) (k : Key) → call.refusal a k ≡ None → key_family k ≡ family_of a)
      → HasLaws (record call { keys = keys; token = Compact token }) (order_by keys) (List ℕ) Compact token
  laws_by (Given k) token family =
      let by = record call { keys = Given k; token = Compact token } in
      record {
        family = key_fits by decode_order refl family;
        moments = moments by decode_order refl refl refl (λ t m. (λ p. p, λ p. p));
        looser = looser by decode_order;
        one_text = fixes by decode_order (List ℕ) Compact token refl one_text refl (λ x w m t u p q h. refl);
      }
  laws_by (InSet ks) token family =
      let by = record call { keys = InSet ks; token = Compact token } in
      record {
        family = key_fits by set_order refl family;
        moments = moments by set_order refl refl refl (λ t m. (λ p. p, λ p. p));
        looser = looser by set_order;
        one_text = fixes by set_order (List ℕ) Compact token refl one_text refl (named_key by set_order refl refl);
      }

-- ---- the exits of the calls that read a token

module _ {T : Type 0} (call : Call T) (keys : KeySource) (o : Options) (token : List ℕ) where
  -- the call with these algorithms
  abbrev with : List Algorithm → Call T
  with algorithms =
      record call { keys = keys; options = with_algorithms o algorithms; token = Compact token }

  -- what a result says, if these algorithms are accepted
  abbrev pub Says : List Algorithm → Result (TokenData T) Refusal → Type 0
  Says algorithms = Step (with algorithms) (order_by keys) whole (Carries call)

  -- there are no three parts
  pub says_cut : (algorithms : List Algorithm) (f : Refusal)
      → IsMemory f.error ⊎ (((p : Parts) → ¬ ArePartsOf token p) × ((HasThreeParts ≡ f.test)
      × (kind_of f.error ≡ InvalidToken)))
      → Says algorithms (Err f)
  says_cut algorithms f fault = or_memory (λ s. (no_contents, inl s)) fault

  module _ (parts : Parts) (has : ArePartsOf token parts) where
    -- the header does not read
    pub says_header : (algorithms : List Algorithm) (c : Test) (r : Result (TokenData T) Error) (e : Error)
        → IsErrAnd r (λ y. y ≡ e)
        → IsMemory e ⊎ ((x : Contents) × Failed bare header_tests (with_header_part parts.header x) c (kind_of e))
        → Says algorithms (tested c r)
    says_header algorithms c r e is fault = exit_noting (with algorithms) (order_by keys) whole (Carries call) c r e is
        (λ f. stop (with algorithms) (order_by keys) (HasThreeParts ∷ []) header_tests
        (record f.0 { parts = parts }) c (kind_of e) (has, tt) f.1) fault

    module _ (h : Header) (xs algorithms : List Algorithm) (same : xs ≡ algorithms)
        (read : (x : Contents) × Passes (token_tests bare) header_tests (with_header_part parts.header x) × (x.header ≡ h))
      where
        abbrev asking : List Algorithm → Call T
        asking ys = record call { keys = keys; options = with_algorithms o ys; token = Compact [] }

        -- the claims are there
        pub says_claims : (y : T)
            → (x : Contents) × Passes (token_tests (asking xs)) (tests_after_header keys) (with_opening parts h x)
            × call.reads x.payload_value y
            → Says algorithms (Ok (record { header = h; claims = y }))
        says_claims y f =
            let held = subst (λ (ys : List Algorithm). Passes (token_tests (asking ys)) (tests_after_header keys)
            (with_opening parts h f.0)) same f.1 in
            beside_claims (with algorithms) parts h read has (order_by keys) y
            (f.0, passes_after (asking algorithms) keys (Compact token) parts h read.0 f.0 held, f.2)

        -- they are refused
        pub says_refused : (q : Refusal)
            → IsMemory q.error ⊎ ((x : Contents) × Failed (asking xs) (tests_after_header keys) (with_opening parts h x) q.test
            (kind_of q.error))
            → Says algorithms (Err q)
        says_refused q fault = no_claims (with algorithms) parts h read has (order_by keys) q (or_memory (λ f. (
          f.0,
          failed_after (asking algorithms) keys (Compact token) parts h read.0 f.0 q.test (kind_of q.error)
              (subst (λ (ys : List Algorithm). Failed (asking ys) (tests_after_header keys)
              (with_opening parts h f.0) q.test (kind_of q.error)) same f.1),
        )) fault)
