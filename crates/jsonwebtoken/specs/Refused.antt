-- The results of a call whose refusal carries the test that failed.
use Rattle.std.specs.Prelude.{◌⊎◌, List, Result, IfOk, IfErr, MatchResult}
use Rattle.jwt_base.specs.KindOf.{kind_of, IsMemory}
use Rattle.jsonwebtoken.specs.Order.{Tests, Passes, IsFirstFailed}
use Rattle.jsonwebtoken.specs.declared.refusal.Refusal.{Refusal}
use Rattle.jsonwebtoken.specs.declared.refusal.Test.{Test}

module _ {Contents : Type 0} (tests : Tests Test Contents) where
  -- the refusal has the order's first failed test, and an error of just that test
  pub record IsRefusal (order : List Test) (refusal : Refusal) : Type 0 where
    pub first : IsFirstFailed tests order refusal.test
    pub kind : tests.has_kind refusal.test first.contents (kind_of refusal.error)

  -- The result of a call that makes its tests in this order, as `Decides` has it: a refusal has the first failed test
  -- and its error, unless memory ran out.
  pub record DecidesByTest {R : Type 0} (order : List Test) (Shows : Contents → R → Type 0) (r : Result R Refusal) :
      Type 0 where
    pub accepted : IfOk r (λ y. (t : Contents) × Passes tests order t × Shows t y)
    pub exact : (t : Contents) → Passes tests order t → MatchResult r (Shows t) (λ refusal. IsMemory refusal.error)
    pub refused : IfErr r (λ refusal. IsMemory refusal.error ⊎ IsRefusal order refusal)
