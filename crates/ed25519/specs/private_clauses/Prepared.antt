-- Multiples of a point, as sums take them.
use Rattle.std.specs.Prelude.{◌≡◌, ℕ, ◌<◌, List, slice_index_or}
use Rattle.edwards.specs.Edwards.{Point, AreSame}
use Rattle.edwards.specs.Factors.{AddendNumbers, addend_of, addend_numbers}
use Rattle.edwards.specs.declared.factors.Addend.{Addend}
use Rattle.edwards.specs.Group.{IsPoint, repeat_of}
use Rattle.ed25519.specs.Ed25519.{p, d, twice_d}

-- Q is j times P
pub record IsMultiple (P : Point) (j : ℕ) (Q : Point) : Type 0 where
  pub is_point : IsPoint p d Q
  pub same : AreSame p Q (repeat_of p twice_d j P)

-- the addend is of a point that is j times P
pub record IsPrepared (P : Point) (j : ℕ) (A : AddendNumbers) : Type 0 where
  pub point : Point
  pub multiple : IsMultiple P j point
  pub addend : A ≡ addend_of p twice_d point

-- each place of the table has that many times P, below the count
abbrev pub ArePrepared : {F : Type 0} → (F → ℕ) → Point → ℕ → List (Addend F) → Type 0
ArePrepared {F} number P count table =
    (j : ℕ) (a : Addend F) → j < count → a ≡ slice_index_or table j a → IsPrepared P j (addend_numbers number a)
