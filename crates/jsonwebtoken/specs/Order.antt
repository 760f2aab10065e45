-- For any tests of any contents: an order of them, the contents that pass it, its first failed test,
-- and the results of a call that makes them.
use Rattle.std.specs.Prelude.{◌≡◌, ◌⊎◌, List, [], ◌∷◌, ◌++◌, Option, Result, IfOk, IfErr, MatchOption, MatchResult}
use Rattle.jwt_base.specs.Kind.{Kind}
use Rattle.jwt_base.specs.KindOf.{kind_of, IsMemory}
use Rattle.jwt_base.specs.declared.errors.Error.{Error}

-- tests of contents: the condition of each, and the kinds of a refusal by it
pub record Tests (Test Contents : Type 0) : Type 1 where
  pub condition : Test → Contents → Type 0
  pub has_kind : Test → Contents → Kind → Type 0

module _ {Test Contents : Type 0} (tests : Tests Test Contents) where
  -- every test of the order holds; Unit {0} is the statement that always holds
  abbrev pub Passes : List Test → Contents → Type 0
  Passes [] t = Unit {0}
  Passes (c ∷ cs) t = tests.condition c t × Passes cs t

  -- The test is the first of the order that fails: some contents pass the tests before it, and no contents that pass
  -- them pass it too.
  pub record IsFirstFailed (order : List Test) (failed : Test) : Type 0 where
    pub before : List Test
    pub after : List Test
    pub in_order : order ≡ before ++ failed ∷ after
    pub contents : Contents
    pub passed : Passes before contents
    pub fails : (t : Contents) → Passes before t → tests.condition failed t → ⊥

  -- the order's first failed test has this kind
  pub record FailsFirst (order : List Test) (k : Kind) : Type 0 where
    pub failed : Test
    pub first : IsFirstFailed order failed
    pub kind : tests.has_kind failed first.contents k

  -- The result of a call that makes its tests in this order. On success some contents pass every test, and the
  -- result shows them. Any contents that pass every test are those that the result shows, unless memory ran out. A
  -- refusal has the kind of the first failed test, unless memory ran out.
  pub record Decides {R : Type 0} (order : List Test) (Shows : Contents → R → Type 0) (r : Result R Error) : Type 0 where
    pub accepted : IfOk r (λ y. (t : Contents) × Passes order t × Shows t y)
    pub exact : (t : Contents) → Passes order t → MatchResult r (Shows t) IsMemory
    pub refused : IfErr r (λ e. IsMemory e ⊎ FailsFirst order (kind_of e))

  -- Some: the first test that fails. None: some contents pass every test.
  abbrev pub IsFirstFailure : List Test → Option Test → Type 0
  IsFirstFailure order f = MatchOption f ((t : Contents) × Passes order t) (IsFirstFailed order)

  -- the result of a call that looks for the first failed test; it is refused only if memory ran out
  abbrev pub FindsFailed : List Test → Result (Option Test) Error → Type 0
  FindsFailed order r = MatchResult r (IsFirstFailure order) IsMemory
