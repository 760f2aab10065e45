-- The lemmas by cases on the tests of a token: contents that pass the same tests are the same, as
-- far as these tests know them; contents that pass do so under looser options and with more keys.
use Rattle.std.proofs.Common.{◌≡◌, ℕ, List, [], ◌∷◌, ◌++◌, Bool, true, false, ◌&&◌, ◌||◌, Some, slice_get, refl, sym}
use Rattle.std.proofs.Common.{◌∙◌, inl, inr, ◌⊎◌, Result, Ok, Err, IfOk, IfErr, Contains, IfSome, Option, None, find}
use Rattle.std.proofs.Common.{option_and_then, arith, subst}
use Rattle.std.specs.Prelude.{MatchResult}
use Rattle.serde_json.specs.Data.{Data, Members}
use Rattle.jwt_base.proofs.Parts.{one_part, one_json}
use Rattle.jwt_base.specs.Kind.{Kind}
use Rattle.jwt_base.specs.KindOf.{kind_of, IsMemory}
use Rattle.jsonwebtoken.specs.Order.{IsFirstFailed, Passes}
use Rattle.jsonwebtoken.specs.Refused.{IsRefusal, DecidesByTest}
use Rattle.jsonwebtoken.specs.declared.refusal.Refusal.{Refusal}
use Rattle.jsonwebtoken.proofs.Engine.{not_passed}
use Rattle.jsonwebtoken.specs.Tests.{Call, Given, Test, HasThreeParts, HeaderIsBase64url, HeaderIsJson, HeaderIsValid}
use Rattle.jsonwebtoken.specs.Tests.{CritIsUnderstood, KeyIsFound, KeyAlgMatches, KeyIsUsable, AlgorithmsAreConfigured}
use Rattle.jsonwebtoken.specs.Tests.{AlgorithmIsAllowed, KeyFitsAlgorithm, AlgorithmsShareFamily, SignatureIsBase64url}
use Rattle.jsonwebtoken.specs.Tests.{SignatureIsAccepted, PayloadIsBase64url, PayloadIsJson, ClaimsMatchType, ClaimsAreAnObject}
use Rattle.jsonwebtoken.specs.Tests.{ClaimsAreValid, Contents, Condition, HasKind, InSet, set_order, KeySource, key_of}
use Rattle.jsonwebtoken.specs.Tests.{message_of, token_tests}
use Rattle.jsonwebtoken.specs.Steps.{Failed, FailsAt, Step}
use Rattle.jsonwebtoken.specs.private_clauses.Steps.{whole}
use Rattle.jwt_header.specs.declared.header.Header.{Header}
use Rattle.jsonwebtoken.proofs.Engine as engine
use Rattle.jwt_header.proofs.HeaderLemmas.{one_header}
use Rattle.jsonwebtoken.proofs.UniqueParts.{one_way}
use Rattle.jwt_keys.proofs.OneKey.{one_key}
use Rattle.jwt_keys.specs.Key.{Key}
use Rattle.std.proofs.lemmas.List.Elements.{All-contains, All-nil, All-weaker, All-contains_itself}
use Rattle.std.proofs.lemmas.List.Folds.{find-append}
use Rattle.jwt_base.specs.Algorithm.{family_of}
use Rattle.jwt_base.specs.declared.algorithms.Algorithm.{Algorithm}
use Rattle.jwt_keys.specs.Jwk.{has_id}
use Rattle.jwt_keys.specs.declared.jwk.Jwk.{Jwk}
use Rattle.jwt_validation.proofs.ClaimRuleLemmas.{rules-looser}
use Rattle.jwt_validation.specs.Moments.{IsSubset, Looser}
use Rattle.jwt_validation.specs.Options.{Options, Texts}
use Rattle.jsonwebtoken.specs.Crit.{IsUnderstoodName, IsUnderstoodList}

abbrev every_test : List Test
every_test = HasThreeParts ∷ HeaderIsBase64url ∷ HeaderIsJson ∷ HeaderIsValid ∷ CritIsUnderstood ∷ KeyIsFound
    ∷ KeyAlgMatches ∷ KeyIsUsable
    ∷ AlgorithmsAreConfigured ∷ AlgorithmIsAllowed ∷ KeyFitsAlgorithm ∷ AlgorithmsShareFamily ∷ SignatureIsBase64url ∷ SignatureIsAccepted
    ∷ PayloadIsBase64url ∷ PayloadIsJson ∷ ClaimsMatchType ∷ ClaimsAreAnObject ∷ ClaimsAreValid ∷ []

abbrev pub number : Test → ℕ
number HasThreeParts = 0
number HeaderIsBase64url = 1
number HeaderIsJson = 2
number HeaderIsValid = 3
number CritIsUnderstood = 4
number KeyIsFound = 5
number KeyAlgMatches = 6
number KeyIsUsable = 7
number AlgorithmsAreConfigured = 8
number AlgorithmIsAllowed = 9
number KeyFitsAlgorithm = 10
number AlgorithmsShareFamily = 11
number SignatureIsBase64url = 12
number SignatureIsAccepted = 13
number PayloadIsBase64url = 14
number PayloadIsJson = 15
number ClaimsMatchType = 16
number ClaimsAreAnObject = 17
number ClaimsAreValid = 18

at_number : (c : Test) → slice_get every_test (number c) ≡ Some c
at_number = elim [
  | HasThreeParts ↦ refl
  | HeaderIsBase64url ↦ refl
  | HeaderIsJson ↦ refl
  | HeaderIsValid ↦ refl
  | CritIsUnderstood ↦ refl
  | KeyIsFound ↦ refl
  | KeyAlgMatches ↦ refl
  | KeyIsUsable ↦ refl
  | AlgorithmsAreConfigured ↦ refl
  | AlgorithmIsAllowed ↦ refl
  | KeyFitsAlgorithm ↦ refl
  | AlgorithmsShareFamily ↦ refl
  | SignatureIsBase64url ↦ refl
  | SignatureIsAccepted ↦ refl
  | PayloadIsBase64url ↦ refl
  | PayloadIsJson ↦ refl
  | ClaimsMatchType ↦ refl
  | ClaimsAreAnObject ↦ refl
  | ClaimsAreValid ↦ refl
]

abbrev pub is_in : Test → List Test → Bool
is_in = engine.has number

abbrev pub are_in : List Test → List Test → Bool
are_in = engine.has_all number

-- these tests make known the things that the test speaks of
abbrev pub parts_known : List Test → Bool
parts_known b = is_in HasThreeParts b

abbrev pub bytes_known : List Test → Bool
bytes_known b = parts_known b && is_in HeaderIsBase64url b

abbrev pub value_known : List Test → Bool
value_known b = bytes_known b && is_in HeaderIsJson b

abbrev pub header_known : List Test → Bool
header_known b = value_known b && is_in HeaderIsValid b

abbrev pub jwk_known : List Test → Bool
jwk_known b = header_known b && is_in KeyIsFound b

abbrev pub is_given : KeySource → Bool
is_given (Given k) = true
is_given (InSet ks) = false

abbrev pub jwk_key_known : List Test → Bool
jwk_key_known b = jwk_known b && is_in KeyIsUsable b

abbrev pub key_known : Bool → List Test → Bool
key_known given b = given || jwk_key_known b

abbrev pub signature_known : List Test → Bool
signature_known b = parts_known b && is_in SignatureIsBase64url b

abbrev pub payload_known : List Test → Bool
payload_known b = parts_known b && is_in PayloadIsBase64url b

abbrev pub claims_known : List Test → Bool
claims_known b = payload_known b && is_in PayloadIsJson b

-- the tests before this one make known the things that it speaks of
abbrev pub ready : Bool → Test → List Test → Bool
ready given HasThreeParts b = true
ready given HeaderIsBase64url b = parts_known b
ready given HeaderIsJson b = bytes_known b
ready given HeaderIsValid b = value_known b
ready given CritIsUnderstood b = header_known b
ready given KeyIsFound b = header_known b
ready given KeyAlgMatches b = header_known b && jwk_known b
ready given KeyIsUsable b = jwk_known b
ready given AlgorithmsAreConfigured b = true
ready given AlgorithmIsAllowed b = header_known b
ready given KeyFitsAlgorithm b = header_known b && key_known given b
ready given AlgorithmsShareFamily b = header_known b
ready given SignatureIsBase64url b = parts_known b
ready given SignatureIsAccepted b = header_known b && (key_known given b && signature_known b)
ready given PayloadIsBase64url b = parts_known b
ready given PayloadIsJson b = payload_known b
ready given ClaimsMatchType b = claims_known b
ready given ClaimsAreAnObject b = claims_known b
ready given ClaimsAreValid b = claims_known b

-- each test of the order stands after those that it rests on
abbrev pub is_sound : Bool → List Test → Bool
is_sound given = engine.is_well_ordered (ready given)

parts_first : (b : List Test) → header_known b ≡ true → parts_known b ≡ true
parts_first b e =
    let v = (engine.both_true (value_known b) (is_in HeaderIsValid b) e).0 in
    let w = (engine.both_true (bytes_known b) (is_in HeaderIsJson b) v).0 in
    (engine.both_true (parts_known b) (is_in HeaderIsBase64url b) w).0

same_key_of : (keys : KeySource) (known : Bool) (j k : Key) → (is_given keys || known) ≡ true → (known ≡ true → j ≡ k)
    → key_of keys j ≡ key_of keys k
same_key_of (Given given) known j k e same = refl
same_key_of (InSet ks) known j k e same = same e

module _ {T : Type 0} (call : Call T) where
  pub met : (b : List Test) (t : Contents) → Passes (token_tests call) b t → (c : Test) → is_in c b ≡ true → Condition call c t
  met = engine.holds_of number (token_tests call) every_test at_number

  -- in whatever order they stand
  pub among : (a b : List Test) (t : Contents) → are_in a b ≡ true → Passes (token_tests call) b t
      → Passes (token_tests call) a t
  among = engine.among number (token_tests call) every_test at_number

  pub join : (a b : List Test) (t : Contents) → Passes (token_tests call) a t → Passes (token_tests call) b t
      → Passes (token_tests call) (a ++ b) t
  join = engine.join (token_tests call)

  module _ (b : List Test) (t s : Contents) (p : Passes (token_tests call) b t) (q : Passes (token_tests call) b s) where
    pub same_parts : parts_known b ≡ true → t.parts ≡ s.parts
    same_parts e = one_way call.token t.parts s.parts (met b t p HasThreeParts e) (met b s q HasThreeParts e)

    pub same_bytes : bytes_known b ≡ true → t.header_bytes ≡ s.header_bytes
    same_bytes e = let k = engine.both_true (parts_known b) (is_in HeaderIsBase64url b) e in
        one_part s.parts.header _ _ (rw (same_parts k.0) at (met b t p HeaderIsBase64url k.1)) (met b s q HeaderIsBase64url k.1)

    pub same_value : value_known b ≡ true → t.header_value ≡ s.header_value
    same_value e = let k = engine.both_true (bytes_known b) (is_in HeaderIsJson b) e in
        one_json s.header_bytes _ _ (rw (same_bytes k.0) at (met b t p HeaderIsJson k.1)) (met b s q HeaderIsJson k.1)

    pub same_header : header_known b ≡ true → t.header ≡ s.header
    same_header e = let k = engine.both_true (value_known b) (is_in HeaderIsValid b) e in
        one_header s.header_value _ _ (rw (same_value k.0) at (met b t p HeaderIsValid k.1)) (met b s q HeaderIsValid k.1)

    same_jwk : jwk_known b ≡ true → t.jwk ≡ s.jwk
    same_jwk e =
        let k = engine.both_true (header_known b) (is_in KeyIsFound b) e in
        let of_t = rw (same_header k.0) at (met b t p KeyIsFound k.1) in
        let both : Some t.jwk ≡ Some s.jwk = sym of_t ∙ met b s q KeyIsFound k.1 in cc

    same_jwk_key : jwk_key_known b ≡ true → t.jwk_key ≡ s.jwk_key
    same_jwk_key e = let k = engine.both_true (jwk_known b) (is_in KeyIsUsable b) e in
        one_key s.jwk.algorithm _ _ (rw (same_jwk k.0) at (met b t p KeyIsUsable k.1)) (met b s q KeyIsUsable k.1)

    same_key : key_known (is_given call.keys) b ≡ true → key_of call.keys t.jwk_key ≡ key_of call.keys s.jwk_key
    same_key e = same_key_of call.keys (jwk_key_known b) t.jwk_key s.jwk_key e same_jwk_key

    pub same_signature : signature_known b ≡ true → t.signature_bytes ≡ s.signature_bytes
    same_signature e = let k = engine.both_true (parts_known b) (is_in SignatureIsBase64url b) e in
        one_part s.parts.signature _ _ (rw (same_parts k.0) at (met b t p SignatureIsBase64url k.1)) (met b s q SignatureIsBase64url k.1)

    pub same_payload : payload_known b ≡ true → t.payload_bytes ≡ s.payload_bytes
    same_payload e = let k = engine.both_true (parts_known b) (is_in PayloadIsBase64url b) e in
        one_part s.parts.payload _ _ (rw (same_parts k.0) at (met b t p PayloadIsBase64url k.1)) (met b s q PayloadIsBase64url k.1)

    pub same_claims : claims_known b ≡ true → t.payload_value ≡ s.payload_value
    same_claims e = let k = engine.both_true (payload_known b) (is_in PayloadIsJson b) e in
        one_json s.payload_bytes _ _ (rw (same_payload k.0) at (met b t p PayloadIsJson k.1)) (met b s q PayloadIsJson k.1)

    fails_for_these : (c : Test) → ready (is_given call.keys) c b ≡ true → FailsAt call c t → Condition call c s → ⊥
    fails_for_these HasThreeParts e none h = none s.parts h
    fails_for_these HeaderIsBase64url e none h = none s.header_bytes (rw (same_parts e) h)
    fails_for_these HeaderIsJson e none h = none s.header_value (rw (same_bytes e) h)
    fails_for_these HeaderIsValid e none h = none s.header (rw (same_value e) h)
    fails_for_these CritIsUnderstood e none h = none (rw (same_header e) h)
    fails_for_these KeyIsFound e none h = none s.jwk (rw (same_header e) h)
    fails_for_these KeyAlgMatches e none h = let k = engine.both_true (header_known b) (jwk_known b) e in
        none (rw (same_header k.0, same_jwk k.1) h)
    fails_for_these KeyIsUsable e none h = none s.jwk_key (rw (same_jwk e) h)
    fails_for_these AlgorithmsAreConfigured e none h = none h
    fails_for_these AlgorithmIsAllowed e none h = none (rw (same_header e) h)
    fails_for_these KeyFitsAlgorithm e none h = let k =
        engine.both_true (header_known b) (key_known (is_given call.keys) b) e in none (rw (same_header k.0, same_key k.1) h)
    fails_for_these AlgorithmsShareFamily e none h = none (rw (same_header e) h)
    fails_for_these SignatureIsBase64url e none h = none s.signature_bytes (rw (same_parts e) h)
    fails_for_these SignatureIsAccepted e none h =
        let k = engine.both_true (header_known b) (key_known (is_given call.keys) b && signature_known b) e in
        let l = engine.both_true (key_known (is_given call.keys) b) (signature_known b) k.1 in
        none (subst (λ j. call.accepts t.header.alg j (message_of t.parts) t.signature_bytes) (sym (same_key l.0))
        (rw (same_header k.0, same_signature l.1, same_parts (parts_first b k.0)) h))
    fails_for_these PayloadIsBase64url e none h = none s.payload_bytes (rw (same_parts e) h)
    fails_for_these PayloadIsJson e none h = none s.payload_value (rw (same_payload e) h)
    fails_for_these ClaimsMatchType e none h = none h.0 (rw (same_claims e) h.1)
    fails_for_these ClaimsAreAnObject e none h = none (rw (same_claims e) h)
    fails_for_these ClaimsAreValid e none h = none (rw (same_claims e) h)

  fails_for : (b : List Test) (t s : Contents) → Passes (token_tests call) b t → Passes (token_tests call) b s
      → (c : Test) → ready (is_given call.keys) c b ≡ true → FailsAt call c t → Condition call c s → ⊥
  fails_for b t s p q = fails_for_these b t s p q

  pub failed_by : (order : List Test) → is_sound (is_given call.keys) order ≡ true
      → (t : Contents) (f : Test) (k : Kind) → Failed call order t f k
      → (first : IsFirstFailed (token_tests call) order f) × HasKind call f first.contents k
  failed_by = engine.failed_by (token_tests call) (FailsAt call) (ready (is_given call.keys)) fails_for

  -- a result of an order, as the clauses describe it
  module _ {R : Type 0} (order : List Test) (sound : is_sound (is_given call.keys) order ≡ true) (shows : Contents → R
      → Type 0) where
    refusal_of : (f : Refusal) → (x : Contents) × Failed call order x f.test (kind_of f.error)
        → IsRefusal (token_tests call) order f
    refusal_of f s = let w = failed_by order sound s.0 f.test (kind_of f.error) s.1 in record { first = w.0; kind = w.1 }

    accepted : (r : Result R Refusal) → Step call order whole shows r
        → IfOk r (λ y. (t : Contents) × Passes (token_tests call) order t × shows t y)
    accepted (Ok y) m = m
    accepted (Err f) m = tt

    exact : (r : Result R Refusal) → Step call order whole shows r
        → ((s t : Contents) (y : R) → Passes (token_tests call) order s → Passes (token_tests call) order t → shows s y
        → shows t y)
        → (t : Contents) → Passes (token_tests call) order t → MatchResult r (λ y. shows t y) (λ f. IsMemory f.error)
    exact (Ok y) m same t p = same m.0 t y m.1 p m.2
    exact (Err f) (inl m) same t p = m
    exact (Err f) (inr s) same t p = absurd (not_passed (token_tests call) order f.test (refusal_of f s).first t p)

    refused : (r : Result R Refusal) → Step call order whole shows r
        → IfErr r (λ f. IsMemory f.error ⊎ IsRefusal (token_tests call) order f)
    refused (Ok y) m = tt
    refused (Err f) (inl m) = inl m
    refused (Err f) (inr s) = inr (refusal_of f s)

    pub decides : (r : Result R Refusal) → Step call order whole shows r
        → ((s t : Contents) (y : R) → Passes (token_tests call) order s → Passes (token_tests call) order t → shows s y
        → shows t y)
        → DecidesByTest (token_tests call) order shows r
    decides r m same = record { accepted = accepted r m; exact = exact r m same; refused = refused r m }

  -- the result does not depend on the contents
  pub same_answer : (order : List Test) → header_known order ≡ true → claims_known order ≡ true
      → {X : Type 0} (header : X → Header) (claims : X → Data → Type 0)
      → (s t : Contents) (y : X) → Passes (token_tests call) order s → Passes (token_tests call) order t
      → (s.header ≡ header y) × claims y s.payload_value → (t.header ≡ header y) × claims y t.payload_value
  same_answer order h c header claims s t y p q a =
      (rw (← same_header order s t p q h) a.0, rw (← same_claims order s t p q c) a.1)

pub each : {T : Type 0} (call other : Call T) (t : Contents) → ((c : Test) → Condition call c t → Condition other c t)
    → (order : List Test) → Passes (token_tests call) order t → Passes (token_tests other) order t
each call other t f [] p = tt
each call other t f (c ∷ cs) p = (f c p.0, each call other t f cs p.1)

-- ---- looser options

more_understood : (v w : Texts) → IsSubset v w → (extras : Members) (crit : Option (List (List ℕ)))
    → IfSome crit (λ ns. IsUnderstoodList ns extras v) → IfSome crit (λ ns. IsUnderstoodList ns extras w)
more_understood v w sub extras None u = tt
more_understood v w sub extras (Some ns) u = record {
  some = u.some;
  once = u.once;
  each = All-weaker (IsUnderstoodName extras v) (IsUnderstoodName extras w)
      (λ n h. record { extension = h.extension; present = h.present; known = sub n h.known }) ns u.each;
}

none_in : (a : Algorithm) → Contains [] a → ⊥
none_in a h = All-contains (λ _. ⊥) [] a (All-nil (λ _. ⊥)) h

not_empty : (xs : List Algorithm) (a : Algorithm) → Contains xs a → xs ≡ [] → ⊥
not_empty [] a h e = absurd (none_in a h)
not_empty (x ∷ xs) a h e = absurd (cc)

some_listed : (v w : List Algorithm) → ((a : Algorithm) → Contains v a → Contains w a) → ¬ (v ≡ []) → ¬ (w ≡ [])
some_listed [] w keeps some = absurd (some refl)
some_listed (a ∷ v) w keeps some = not_empty w a (keeps a (0, omega arith, refl))

module _ {T : Type 0} (call : Call T) (t : Contents) (w : Options) (l : Looser call.options w) where
  looser_at : (c : Test) → Condition call c t → Condition (record call { options = w }) c t
  looser_at HasThreeParts h = h
  looser_at HeaderIsBase64url h = h
  looser_at HeaderIsJson h = h
  looser_at HeaderIsValid h = h
  looser_at CritIsUnderstood h = more_understood call.options.understood w.understood l.understood t.header.extras
      t.header.crit h
  looser_at KeyIsFound h = h
  looser_at KeyAlgMatches h = h
  looser_at KeyIsUsable h = h
  looser_at AlgorithmsAreConfigured h = some_listed call.options.algorithms w.algorithms l.keeps h
  looser_at AlgorithmIsAllowed h = l.keeps t.header.alg h
  looser_at KeyFitsAlgorithm h = h
  looser_at AlgorithmsShareFamily h = All-weaker (Contains w.algorithms) (λ a. family_of a ≡ family_of t.header.alg)
      (λ a i. let f = l.families a i in sym f.2
      ∙ All-contains (λ b. family_of b ≡ family_of t.header.alg) call.options.algorithms f.0 h f.1)
      w.algorithms (All-contains_itself w.algorithms)
  looser_at SignatureIsBase64url h = h
  looser_at SignatureIsAccepted h = h
  looser_at PayloadIsBase64url h = h
  looser_at PayloadIsJson h = h
  looser_at ClaimsMatchType h = h
  looser_at ClaimsAreAnObject h = h
  looser_at ClaimsAreValid h = rules-looser call.options w t.payload_value call.time l h

  -- contents that pass under some options pass under looser ones
  pub passes_looser : (order : List Test) → Passes (token_tests call) order t
      → Passes (token_tests (record call { options = w })) order t
  passes_looser order p = each call (record call { options = w }) t looser_at order p

-- ---- more keys

still_named : (ks more : List Jwk) (kid : Option (List ℕ)) (j : Jwk) → option_and_then (λ id. find (has_id id) ks) kid ≡ Some j
    → option_and_then (λ id. find (has_id id) (ks ++ more)) kid ≡ Some j
still_named ks more None j e = absurd (cc)
still_named ks more (Some id) j e = find-append (has_id id) ks more ∙ rw e refl

module _ {T : Type 0} (call : Call T) (t : Contents) (ks more : List Jwk) where
  abbrev fewer : Call T
  fewer = record call { keys = InSet ks }

  abbrev with_more : Call T
  with_more = record call { keys = InSet (ks ++ more) }

  kept_at : (c : Test) → Condition fewer c t → Condition with_more c t
  kept_at HasThreeParts h = h
  kept_at HeaderIsBase64url h = h
  kept_at HeaderIsJson h = h
  kept_at HeaderIsValid h = h
  kept_at CritIsUnderstood h = h
  kept_at KeyIsFound h = still_named ks more t.header.kid t.jwk h
  kept_at KeyAlgMatches h = h
  kept_at KeyIsUsable h = h
  kept_at AlgorithmsAreConfigured h = h
  kept_at AlgorithmIsAllowed h = h
  kept_at KeyFitsAlgorithm h = h
  kept_at AlgorithmsShareFamily h = h
  kept_at SignatureIsBase64url h = h
  kept_at SignatureIsAccepted h = h
  kept_at PayloadIsBase64url h = h
  kept_at PayloadIsJson h = h
  kept_at ClaimsMatchType h = h
  kept_at ClaimsAreAnObject h = h
  kept_at ClaimsAreValid h = h

  -- contents that pass with a set pass with more keys after those of the set
  pub kept_with_more : Passes (token_tests fewer) set_order t → Passes (token_tests with_more) set_order t
  kept_with_more p = each fewer with_more t kept_at set_order p
