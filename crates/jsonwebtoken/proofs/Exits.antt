-- The exits by `?`, the last call, and a result with a test beside its error or without it.
use Rattle.std.proofs.Common.{◌≡◌, Option, Some, None, sym, subst, ◌∙◌, ◌⊎◌, ⊎_elim, ◌↔◌, ℕ, List, [], ◌∷◌, ◌++◌, drop}
use Rattle.std.proofs.Common.{length, ◌+◌, inl, inr, refl, Result, Ok, Err, IfOk, IfErr}
use Rattle.std.specs.Prelude.{IsErrAnd, IsOk, IsSome}
use Rattle.std.specs.Result.{result_err}
use Rattle.std.proofs.lemmas.Result.{err_from_is_err_and}
use Rattle.jwt_base.specs.Kind.{Kind}
use Rattle.jwt_base.specs.KindOf.{kind_of, IsMemory, RefusesAs}
use Rattle.jwt_base.specs.declared.errors.Error.{Error}
use Rattle.jwt_header.specs.declared.header.Header.{Header}
use Rattle.jwt_validation.specs.ClaimRules.{IsFault, IsRuleFault, missing, broken, RulesHold, IsErrorFor}
use Rattle.jwt_validation.specs.Options.{Options}
use Rattle.serde_json.specs.Data.{Data}
use Rattle.serde_json.specs.Find.{as_object}
use Rattle.jsonwebtoken.specs.Calls.{Carries}
use Rattle.jsonwebtoken.specs.Order.{Tests, Passes, Decides, FailsFirst, FindsFailed}
use Rattle.jsonwebtoken.specs.Refused.{DecidesByTest, IsRefusal}
use Rattle.jsonwebtoken.specs.Tests.{Call, Parts, HasParts, key_of, Test, ClaimsAreAnObject, ClaimsAreValid, Contents}
use Rattle.jsonwebtoken.specs.Tests.{header_tests, header_order, verifying_tests, token_tests}
use Rattle.jsonwebtoken.specs.declared.decoding.TokenData.{TokenData}
use Rattle.jsonwebtoken.specs.declared.refusal.Refusal.{Refusal}
use Rattle.jsonwebtoken.specs.FailedAt.{StopsAt}
use Rattle.jsonwebtoken.specs.private_clauses.Refused.{IsWithTest, IsWithoutTest, IsFailedTest, tested}
use Rattle.jsonwebtoken.specs.Steps.{Meets, Finds, FailsAt, Step, Failed}
use Rattle.jsonwebtoken.specs.private_clauses.Steps.{IsBeside, bare, holding, no_contents}
use Rattle.jsonwebtoken.specs.private_clauses.Steps.{rule_tests, with_header_part, with_value, whole, verifying_by}
use Rattle.jsonwebtoken.proofs.Engine.{join}

pub not_both : {K : Type 0} (r : Option K) (k : K) → r ≡ Some k → r ≡ None → ⊥
not_both r k e f = let both : Some k ≡ None = sym e ∙ f in cc

-- memory ran out, or a consequence of the fault
pub or_memory : {M A B : Type 0} → (A → B) → M ⊎ A → M ⊎ B
or_memory f (inl m) = inl m
or_memory f (inr a) = inr (f a)

-- ---- a result with a test beside its error, and without it

-- what holds of the value of a result that is this one
of_ok : {R : Type 0} (P : R → Type 0) (r : Result R Error) (y : R) → r ≡ Ok y → IfOk r P → P y
of_ok P r y is p = let held : IfOk {E = Error} (Ok y) P = rw is at p in held

-- what holds of its error
of_err : {R : Type 0} (Q : Error → Type 0) (r : Result R Error) (e : Error) → r ≡ Err e → IfErr r Q → Q e
of_err {R = R} Q r e is q = let held : IfErr {T = R} (Err e) Q = rw is at q in held

-- a call that is refused for memory alone
pub memory_of : {R : Type 0} (c : Test) (made : Result R Error) (f : Refusal) → IsWithTest c made (Err f)
    → IfErr made IsMemory → IsMemory f.error
memory_of c made f is err = of_err IsMemory made f.error is.1 err

-- a call that looks for a value, as a test
pub finds_value : {R : Type 0} {Q : Error → Type 0} (c : Test) (P : R → Type 0) (none : Type 0) (K : Kind → Type 0)
    (made : Result R Error) (r : Result R Refusal)
    → IsWithTest c made r → IfOk made P → IfErr made (λ e. IsMemory e ⊎ Q e)
    → ((e : Error) → Q e → none × K (kind_of e)) → Finds c P none K r
finds_value c P none K made (Ok y) is ok err f = of_ok P made y is ok
finds_value {Q = Q} c P none K made (Err f) is ok err g =
    or_memory (λ q. let x = g f.error q in (x.0, (is.0, x.1))) (of_err (λ e. IsMemory e ⊎ Q e) made f.error is.1 err)

pub finds : {R : Type 0} (c : Test) (P : R → Type 0) (none : Type 0) (k : Kind) (made : Result R Error) (r : Result R Refusal)
    → IsWithTest c made r → IfOk made P → IfErr made (RefusesAs k none) → Finds c P none (λ x. x ≡ k) r
finds c P none k made r is ok err = finds_value c P none (λ x. x ≡ k) made r is ok err (λ e x. (x.1, x.0))

-- a decision without the test
pub without : {C R : Type 0} (tests : Tests Test C) (order : List Test) (shows : C → R → Type 0) (q : Result R Refusal)
    (r : Result R Error)
    → IsWithoutTest q r → DecidesByTest tests order shows q → Decides tests order shows r
without tests order shows (Ok y) r is d =
    subst (Decides tests order shows) (sym is) (record { accepted = d.accepted; exact = d.exact; refused = tt })
without tests order shows (Err f) r is d =
    let fails : IsRefusal tests order f → FailsFirst tests order (kind_of f.error) =
    λ x. record { failed = f.test; first = x.first; kind = x.kind } in
    subst (Decides tests order shows) (sym is) (record { accepted = tt; exact = d.exact; refused = or_memory fails d.refused })

-- a decision without the test that was noted
pub unnoted : {C R : Type 0} (tests : Tests Test C) (order : List Test) (shows : C → R → Type 0) (t : Test) (r : Result R Error)
    → DecidesByTest tests order shows (tested t r) → Decides tests order shows r
unnoted tests order shows t (Ok y) d = without tests order shows (Ok y) (Ok y) refl d
unnoted tests order shows t (Err e) d = without tests order shows (Err (record { test = t; error = e })) (Err e) refl d

-- a result with the test that was noted
pub noted : {R : Type 0} (t : Test) (made : Result R Error) (r : Result R Refusal) → IsWithTest t made r → tested t made ≡ r
noted t made (Ok y) is = rw is refl
noted t made (Err f) is = rw (is.0, is.1) refl

-- the test alone
pub first_failed : {C R : Type 0} (tests : Tests Test C) (order : List Test) (shows : C → R → Type 0)
    (q : Result R Refusal) (r : Result (Option Test) Error)
    → IsFailedTest (result_err q) r → DecidesByTest tests order shows q → FindsFailed tests order r
first_failed tests order shows (Ok y) r is d = subst (FindsFailed tests order) (sym is) (d.accepted.0, d.accepted.1)
first_failed tests order shows (Err f) r (inl m) d = subst (FindsFailed tests order) (sym m.1) m.0
first_failed tests order shows (Err f) r (inr failed) d =
    subst (FindsFailed tests order) (sym failed.1) (⊎_elim (λ m. absurd (failed.0 m)) (λ x. x.first) d.refused)

-- there is a test only if memory did not run out
pub not_memory : {F : Type 0} (f : Refusal) (t : Option Test) → IsFailedTest (Some f) (Ok t) → IsMemory f.error ⊎ F → F
not_memory f t (inl m) s = absurd (cc)
not_memory f t (inr n) s = ⊎_elim (λ m. absurd (n.0 m)) (λ x. x) s

-- ---- the steps

-- an exit by `?`: memory ran out, or the fault fails a test of the order
module _ {T R : Type 0} (call : Call T) (order : List Test) (at : Contents → Contents) (Shows : Contents → R → Type 0) where
  pub exit : {A : Type 0} (r : Result R Refusal) (f : Refusal) → IsErrAnd r (λ y. y ≡ f)
      → (A → (x : Contents) × Failed call order (at x) f.test (kind_of f.error)) → IsMemory f.error ⊎ A
      → Step call order at Shows r
  exit r f is g fault = let p = err_from_is_err_and r is in rw (p.1, p.2) (or_memory g fault)

  -- the same, if the test is noted beside the result
  pub exit_noting : {A : Type 0} (t : Test) (r : Result R Error) (e : Error) → IsErrAnd r (λ y. y ≡ e)
      → (A → (x : Contents) × Failed call order (at x) t (kind_of e)) → IsMemory e ⊎ A → Step call order at Shows (tested t r)
  exit_noting t r e is g fault = let p = err_from_is_err_and r is in rw (p.1, p.2) (or_memory g fault)

  -- the result of a last call, if the test is noted beside it
  pub last_noting : {P : R → Type 0} {Q : Error → Type 0} (t : Test) (r : Result R Error) → IfOk r P
      → IfErr r (λ e. IsMemory e ⊎ Q e)
      → ((y : R) → P y → (x : Contents) × Passes (token_tests call) order (at x) × Shows x y)
      → ((e : Error) → Q e → (x : Contents) × Failed call order (at x) t (kind_of e)) → Step call order at Shows (tested t r)
  last_noting t (Ok y) ok err g h = g y ok
  last_noting t (Err e) ok err g h = or_memory (h e) err

  -- a last step
  pub last : {P : R → Type 0} {Q : Test → Kind → Type 0} (r : Result R Refusal) → Meets P Q r
      → ((y : R) → P y → (x : Contents) × Passes (token_tests call) order (at x) × Shows x y)
      → ((f : Test) (k : Kind) → Q f k → (x : Contents) × Failed call order (at x) f k) → Step call order at Shows r
  last (Ok y) m g h = g y m
  last (Err f) m g h = or_memory (λ q. h f.test (kind_of f.error) q) m

  -- the result of a function that was given that of the last test
  pub last_of : {A : Type 0} {W : R → Type 0} (P : A → Type 0) (Q : Test → Kind → Type 0) (found : R → A)
      (q : Result A Refusal) (r : Result R Refusal) → IfOk r (λ y. W y × (q ≡ Ok (found y))) → IfErr r (λ f. q ≡ Err f)
      → Meets P Q q → ((y : R) → W y → P (found y) → (x : Contents) × Passes (token_tests call) order (at x) × Shows x y)
      → ((f : Test) (k : Kind) → Q f k → (x : Contents) × Failed call order (at x) f k) → Step call order at Shows r
  last_of P Q found q (Ok y) ok err m g h = let held : Meets P Q (Ok (found y)) = rw ok.1 at m in g y ok.0 held
  last_of P Q found q (Err f) ok err m g h =
      let held : Meets P Q (Err f) = rw err at m in or_memory (λ x. h f.test (kind_of f.error) x) held

  -- a last call, with this test
  pub last_test : {P : R → Type 0} {Q : Error → Type 0} (c : Test) (made : Result R Error) (r : Result R Refusal)
      → IsWithTest c made r
      → IfOk made P → IfErr made (λ e. IsMemory e ⊎ Q e)
      → ((y : R) → P y → (x : Contents) × Passes (token_tests call) order (at x) × Shows x y)
      → ((e : Error) → Q e → (x : Contents) × Failed call order (at x) c (kind_of e)) → Step call order at Shows r
  last_test {P = P} c made (Ok y) is ok err g h = g y (of_ok P made y is ok)
  last_test {Q = Q} c made (Err f) is ok err g h =
      or_memory (λ q. subst (λ d. (x : Contents) × Failed call order (at x) d (kind_of f.error)) is.0 (h f.error q))
      (of_err (λ e. IsMemory e ⊎ Q e) made f.error is.1 err)

module _ {T : Type 0} (call : Call T) where
  -- the tests failed before these, or after those that hold
  stops_early : (Is : Test → Contents → Type 0) (a b : List Test) (t : Contents)
      → StopsAt (token_tests call) (FailsAt call) Is a t → StopsAt (token_tests call) (FailsAt call) Is (a ++ b) t
  stops_early Is [] b t f = absurd f
  stops_early Is (c ∷ a) b t (inl f) = inl f
  stops_early Is (c ∷ a) b t (inr (h, f)) = inr (h, stops_early Is a b t f)

  stops_later : (Is : Test → Contents → Type 0) (a b : List Test) (t : Contents) → Passes (token_tests call) a t
      → StopsAt (token_tests call) (FailsAt call) Is b t
      → StopsAt (token_tests call) (FailsAt call) Is (a ++ b) t
  stops_later Is [] b t p f = f
  stops_later Is (c ∷ a) b t p f = inr (p.0, stops_later Is a b t p.1 f)

  pub early : (a b : List Test) (t : Contents) (f : Test) (k : Kind) → Failed call a t f k → Failed call (a ++ b) t f k
  early a b t f k = stops_early (λ c s. (c ≡ f) × (token_tests call).has_kind c s k) a b t

  pub later : (a b : List Test) (t : Contents) (f : Test) (k : Kind) → Passes (token_tests call) a t
      → Failed call b t f k → Failed call (a ++ b) t f k
  later a b t f k = stops_later (λ c s. (c ≡ f) × (token_tests call).has_kind c s k) a b t

  -- Of an order: the tests a hold, and the tests b that follow failed. The rest of the order is
  -- computed.
  pub stop : (order a b : List Test) (t : Contents) (f : Test) (k : Kind) → Passes (token_tests call) a t → Failed call b t f k
      → (x : Contents) × Failed call (a ++ (b ++ drop (length a + length b) order)) x f k
  stop order a b t f k p s =
      (t, later a (b ++ drop (length a + length b) order) t f k p (early b (drop (length a + length b) order) t f k s))

-- ---- the relations of the steps of a call that reads a header and then more, put together

-- the parts that were found, and the header that was read of them
module _ {T : Type 0} (call : Call T) (parts : Parts) (h : Header)
    (o : (x : Contents) × Passes (token_tests bare) header_tests (with_header_part parts.header x) × (x.header ≡ h))
    (has : HasParts call.token parts) where
  -- with the contents that were found after it
  abbrev pub opened : Contents → Contents
  opened x = record o.0 {
    parts = parts;
    header = h;
    jwk = x.jwk;
    jwk_key = x.jwk_key;
    signature_bytes = x.signature_bytes;
    payload_bytes = x.payload_bytes;
    payload_value = x.payload_value;
  }

  pub opened_passes : (x : Contents) → Passes (token_tests call) header_order (opened x)
  opened_passes x = let p : Passes (token_tests bare) header_tests (opened x) = rw o.2 at o.1 in (has, p)

  -- contents that pass the rest of the order pass all of it, and the same for contents that fail
  pub opened_then : (order : List Test) (x : Contents) → Passes (token_tests call) (drop (length header_order) order) (opened x)
      → Passes (token_tests call) (header_order ++ drop (length header_order) order) (opened x)
  opened_then order x p = join (token_tests call) header_order (drop (length header_order) order) (opened x) (opened_passes x) p

  pub after_opened : (order : List Test) (x : Contents) (f : Test) (k : Kind)
      → Failed call (drop (length header_order) order) (opened x) f k
      → (s : Contents) × Failed call (header_order ++ drop (length header_order) order) s f k
  after_opened order x f k s = (
    opened x,
    later call header_order (drop (length header_order) order) (opened x) f k
        (opened_passes x) s,
  )

  -- the header beside the claims that were read after it, and their refusal
  pub beside_claims : (order : List Test) (y : T)
      → ((x : Contents) × Passes (token_tests call) (drop (length header_order) order) (opened x)
      × call.reads x.payload_value y)
      → Step call (header_order ++ drop (length header_order) order) whole (Carries call)
      (Ok (record { header = h; claims = y }))
  beside_claims order y f = (opened f.0, opened_then order f.0 f.1, (refl, f.2))

  pub no_claims : (order : List Test) (r : Refusal)
      → IsMemory r.error ⊎ ((x : Contents) × Failed call (drop (length header_order) order) (opened x) r.test (kind_of r.error))
      → Step call (header_order ++ drop (length header_order) order) whole (Carries call) (Err r)
  no_claims order r refused = or_memory (λ s. after_opened order s.0 r.test (kind_of r.error) s.1) refused

  -- one of the two
  pub beside : (order : List Test) (q : Result T Refusal) (r : Result (TokenData T) Refusal) → IsBeside h q r
      → Meets (λ y. (x : Contents) × Passes (token_tests call) (drop (length header_order) order) (opened x)
      × call.reads x.payload_value y)
      (λ f k. (x : Contents) × Failed call (drop (length header_order) order) (opened x) f k) q
      → Step call (header_order ++ drop (length header_order) order) whole (Carries call) r
  beside order (Ok y) r is f = rw is (beside_claims order y f)
  beside order (Err e) r is f = rw is (no_claims order e f)

-- the claim rules never both hold and have a fault
pub not_held : (v : Options) (d : Data) (time : ℕ) (k : Kind) → IsRuleFault v d time k → RulesHold v d time → ⊥
not_held v d time k (missing n is) held = held.required n is
not_held v d time k (broken none r first) held = first.fails (held.rules r)

-- claims that `validate` refuses fail one of its tests
pub rules_failed : (o : Options) (d : Data) (time : ℕ) (c : Test) (e : Error)
    → (IsSome (as_object d) × (c ≡ ClaimsAreValid)) ⊎ ((¬ IsSome (as_object d)) × (c ≡ ClaimsAreAnObject))
    → ((k : Kind) × IsFault o d time k × IsErrorFor e k)
    → IsMemory e ⊎ Failed (holding o time) rule_tests (with_value d no_contents) c (kind_of e)
rules_failed o d time c e (inl (object, is)) (k, inl (none, json), told) = absurd (none object)
rules_failed o d time c e (inr (none, is)) (k, inr (object, fault), told) = absurd (none object)
rules_failed o d time c e is (k, fault, inr memory) = inl memory.0
rules_failed o d time c e (inl (object, is)) (k, inr (some, fault), inl told) =
    inr (rw told (inr (object, inl (not_held o d time k fault, (sym is, fault)))))
rules_failed o d time c e (inr (none, is)) (k, inl (fails, json), inl told) = inr (rw told (inl (fails, (sym is, json))))

-- a value of a result that is there only if this holds
pub if_ok : {R E X : Type 0} (r : Result R E) → (IsOk r → X) → IfOk r (λ _. X)
if_ok (Ok y) f = f refl
if_ok (Err e) f = tt

-- one verifier's results are the other's
module _ {T : Type 0} (call : Call T) (A : List ℕ → List ℕ → Type 0) (t : Contents) (same : (m s : List ℕ) → A m s
    ↔ call.accepts t.header.alg (key_of call.keys t.jwk_key) m s) where
  abbrev by_verifier : Call T
  by_verifier = verifying_by call.reads call.options call.time A

  pub verified_passes : Passes (token_tests by_verifier) verifying_tests t → Passes (token_tests call) verifying_tests t
  verified_passes p = (p.0, ((same _ _).0 p.1.0, p.1.1))

  pub verified_failed : (f : Test) (k : Kind) → Failed by_verifier verifying_tests t f k → Failed call verifying_tests t f k
  verified_failed f k (inl s) = inl s
  verified_failed f k (inr (h, inl s)) = inr (h, inl ((λ x. s.0 ((same _ _).1 x)), s.1))
  verified_failed f k (inr (h, inr (a, s))) = inr (h, inr ((same _ _).0 a, s))
