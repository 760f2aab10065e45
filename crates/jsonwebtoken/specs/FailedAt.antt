-- The contents at which a test of an order fails.
use Rattle.std.specs.Prelude.{◌≡◌, ◌⊎◌, List, [], ◌∷◌}
use Rattle.jwt_base.specs.Kind.{Kind}
use Rattle.jsonwebtoken.specs.Order.{Tests}

module _ {Test Contents : Type 0} (tests : Tests Test Contents) (FailsAt : Test → Contents → Type 0) where
  -- these contents pass the tests up to one that fails at them, which is like this
  abbrev pub StopsAt : (Test → Contents → Type 0) → List Test → Contents → Type 0
  StopsAt Is [] t = ⊥
  StopsAt Is (c ∷ cs) t = (FailsAt c t × Is c t) ⊎ (tests.condition c t × StopsAt Is cs t)

  -- up to one that fails with this kind
  abbrev pub FailedAt : List Test → Contents → Kind → Type 0
  FailedAt order t k = StopsAt (λ c s. tests.has_kind c s k) order t

  -- up to this one, which fails with this kind
  abbrev pub FailedBy : List Test → Contents → Test → Kind → Type 0
  FailedBy order t f k = StopsAt (λ c s. (c ≡ f) × tests.has_kind c s k) order t
