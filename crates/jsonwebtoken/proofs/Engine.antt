-- For any tests of any contents: a failed walk is the first failed test, and contents that fail do
-- not pass.
use Rattle.std.proofs.Common.{◌≡◌, ◌⊎◌, ℕ, List, [], ◌∷◌, ◌++◌, Bool, true, false, ◌&&◌, ◌||◌, eqb, Some, slice_get}
use Rattle.std.proofs.Common.{inl, inr, ⊎_elim, refl, sym, ap, subst, ◌∙◌, Result, Ok, Err, IfOk, IfErr}
use Rattle.std.proofs.lemmas.Bool.{eqb-true}
use Rattle.std.specs.Prelude.{MatchResult}
use Rattle.jwt_base.specs.Kind.{Kind}
use Rattle.jwt_base.specs.KindOf.{kind_of, IsMemory}
use Rattle.jwt_base.specs.declared.errors.Error.{Error}
use Rattle.jsonwebtoken.specs.Order.{Tests, Passes, IsFirstFailed, FailsFirst, Decides}
use Rattle.jsonwebtoken.specs.FailedAt.{StopsAt, FailedAt, FailedBy}
use Rattle.jsonwebtoken.specs.private_clauses.IssueSteps.{Meets}

pub both_true : (x y : Bool) → (x && y) ≡ true → (x ≡ true) × (y ≡ true)
both_true true y e = (refl, e)
both_true false y e = absurd (cc)

pub either_true : (x y : Bool) → (x || y) ≡ true → (x ≡ true) ⊎ (y ≡ true)
either_true true y e = inl refl
either_true false y e = inr e

-- tests with numbers, each its place in the list of every test
module _ {Test : Type 0} (number : Test → ℕ) where
  abbrev pub has : Test → List Test → Bool
  has c [] = false
  has c (d ∷ ds) = eqb (number c) (number d) || has c ds

  -- each of these tests is one of those
  abbrev pub has_all : List Test → List Test → Bool
  has_all [] b = true
  has_all (c ∷ a) b = has c b && has_all a b

  module _ {Contents : Type 0} (tests : Tests Test Contents) (every : List Test) (at_number : (c : Test)
      → slice_get every (number c) ≡ Some c) where
    same_test : (c d : Test) → number c ≡ number d → c ≡ d
    same_test c d e = let w : Some c ≡ Some d = sym (at_number c) ∙ ap (slice_get every) e ∙ at_number d in cc

    pub holds_of : (b : List Test) (t : Contents) → Passes tests b t → (c : Test) → has c b ≡ true → tests.condition c t
    holds_of [] t p c e = absurd (cc)
    holds_of (d ∷ b) t p c e = let w = either_true (eqb (number c) (number d)) (has c b) e in
        ⊎_elim (λ same. let eq : c ≡ d = same_test c d (eqb-true (number c) (number d) same) in rw eq p.0)
        (λ later. holds_of b t p.1 c later) w

    -- in whatever order they stand
    pub among : (a b : List Test) (t : Contents) → has_all a b ≡ true → Passes tests b t → Passes tests a t
    among [] b t e p = tt
    among (c ∷ a) b t e p = let k = both_true (has c b) (has_all a b) e in (holds_of b t p c k.0, among a b t k.1 p)

append_test : {Test : Type 0} (b : List Test) (c : Test) (cs : List Test) → (b ++ c ∷ []) ++ cs ≡ b ++ c ∷ cs
append_test [] c cs = refl
append_test (d ∷ b) c cs = ap (λ l. d ∷ l) (append_test b c cs)

-- each test of an order stands after those that it rests on
module _ {Test : Type 0} (ready : Test → List Test → Bool) where
  abbrev pub ready_from : List Test → List Test → Bool
  ready_from before [] = true
  ready_from before (c ∷ cs) = ready c before && ready_from (before ++ c ∷ []) cs

  abbrev pub is_well_ordered : List Test → Bool
  is_well_ordered order = ready_from [] order

module _ {Test Contents : Type 0} (tests : Tests Test Contents) where
  pub join : (a b : List Test) (t : Contents) → Passes tests a t → Passes tests b t → Passes tests (a ++ b) t
  join [] b t p q = q
  join (c ∷ a) b t p q = (p.0, join a b t p.1 q)

  pub front : (a b : List Test) (t : Contents) → Passes tests (a ++ b) t → Passes tests a t
  front [] b t p = tt
  front (c ∷ a) b t p = (p.0, front a b t p.1)

  pub back : (a b : List Test) (t : Contents) → Passes tests (a ++ b) t → Passes tests b t
  back [] b t p = p
  back (c ∷ a) b t p = back a b t p.1

  pub not_passed : (order : List Test) (c : Test) → IsFirstFailed tests order c → (t : Contents) → Passes tests order t → ⊥
  not_passed order c f t p =
      let q = rw f.in_order at p in
      f.fails t (front f.before (c ∷ f.after) t q) (back f.before (c ∷ f.after) t q).0

  module _ (FailsAt : Test → Contents → Type 0)
      (ready : Test → List Test → Bool)
      (fails_for : (b : List Test) (t s : Contents) → Passes tests b t → Passes tests b s → (c : Test)
      → ready c b ≡ true → FailsAt c t → tests.condition c s → ⊥) where
    -- the first failed test of an order, which is like this
    abbrev Found : (Test → Contents → Type 0) → List Test → Type 0
    Found Is order = (c : Test) × (first : IsFirstFailed tests order c) × Is c first.contents

    walk : (Is : Test → Contents → Type 0) (b order : List Test) (t : Contents) → ready_from ready b order ≡ true
        → Passes tests b t
        → StopsAt tests FailsAt Is order t → Found Is (b ++ order)
    walk Is b [] t e p f = absurd f
    walk Is b (c ∷ cs) t e p (inl (none, is)) = (
      c,
      record {
        before = b;
        after = cs;
        in_order = refl;
        contents = t;
        passed = p;
        fails = λ s q h. fails_for b t s p q c (both_true (ready c b) (ready_from ready (b ++ c ∷ []) cs) e).0 none h;
      },
      is,
    )
    walk Is b (c ∷ cs) t e p (inr (h, f)) =
        rw (append_test b c cs) at (walk Is (b ++ c ∷ []) cs t
        (both_true (ready c b) (ready_from ready (b ++ c ∷ []) cs) e).1 (join b (c ∷ []) t p (h, tt)) f)

    pub fails_first : (order : List Test) → is_well_ordered ready order ≡ true → (t : Contents) (k : Kind)
        → FailedAt tests FailsAt order t k → FailsFirst tests order k
    fails_first order e t k f = let w = walk (λ c s. tests.has_kind c s k) [] order t e tt f in
        record { failed = w.0; first = w.1; kind = w.2 }

    pub failed_by : (order : List Test) → is_well_ordered ready order ≡ true → (t : Contents) (f : Test) (k : Kind)
        → FailedBy tests FailsAt order t f k
        → (first : IsFirstFailed tests order f) × tests.has_kind f first.contents k
    failed_by order e t f k s = let w = walk (λ c u. (c ≡ f) × tests.has_kind c u k) [] order t e tt s in
        subst (λ c. (first : IsFirstFailed tests order c) × tests.has_kind c first.contents k) w.2.0 (w.1, w.2.1)

    -- a result of an order, as the clauses describe it
    module _ {R : Type 0} (order : List Test) (sound : is_well_ordered ready order ≡ true) (shows : Contents → R → Type 0) where
      abbrev Tells : Result R Error → Type 0
      Tells = Meets (λ r. (x : Contents) × Passes tests order x × shows x r)
          (λ k. (x : Contents) × FailedAt tests FailsAt order x k)

      pub accepted : (r : Result R Error) → Tells r → IfOk r (λ y. (t : Contents) × Passes tests order t × shows t y)
      accepted (Ok y) m = m
      accepted (Err e) m = tt

      pub refused : (r : Result R Error) → Tells r → IfErr r (λ e. IsMemory e ⊎ FailsFirst tests order (kind_of e))
      refused (Ok y) m = tt
      refused (Err e) (inl m) = inl m
      refused (Err e) (inr (t, f)) = inr (fails_first order sound t (kind_of e) f)

      pub exact : (r : Result R Error) → Tells r → ((s t : Contents) (y : R) → Passes tests order s
          → Passes tests order t → shows s y → shows t y)
          → (t : Contents) → Passes tests order t → MatchResult r (λ y. shows t y) IsMemory
      exact (Ok y) m same t p = same m.0 t y m.1 p m.2
      exact (Err e) (inl m) same t p = m
      exact (Err e) (inr (s, g)) same t p = let w = fails_first order sound s (kind_of e) g in
          absurd (not_passed order w.failed w.first t p)

      pub decides : (r : Result R Error) → Tells r → ((s t : Contents) (y : R) → Passes tests order s
          → Passes tests order t → shows s y → shows t y) → Decides tests order shows r
      decides r m same = record { accepted = accepted r m; exact = exact r m same; refused = refused r m }
