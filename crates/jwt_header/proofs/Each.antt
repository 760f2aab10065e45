-- A relation at each place of two lists, one place after another.
use Rattle.std.proofs.Common.{ℕ, zero, suc, ◌<◌, ◌+◌, List, [], ◌∷◌, ◌++◌, length, get_or, take, drop, arith, add-one}
use Rattle.std.proofs.Common.{drop-cons}
use Rattle.std.specs.List.{AllZip}

module _ {X Y : Type 0} (R : X → Y → Type 0) where
  more_at : (xs : List X) (i : ℕ) (d : X) (ys : List Y) (y : Y) → i < length xs → AllZip R (take i xs) ys
      → R (get_or xs i d) y → AllZip R (take (suc i) xs) (ys ++ y ∷ [])
  more_at [] i d ys y h r s = absurd (omega arith)
  more_at (x ∷ xs) zero d [] y h r s = (s, tt)
  more_at (x ∷ xs) zero d (z ∷ ys) y h r s = absurd r
  more_at (x ∷ xs) (suc i) d [] y h r s = absurd r
  more_at (x ∷ xs) (suc i) d (z ∷ ys) y h r s = (r.0, more_at xs i d ys y (omega arith) r.1 s)

  pub one_more : (xs : List X) (i : ℕ) (d : X) (ys : List Y) (y : Y) → i < length xs → AllZip R (take i xs) ys
      → R (get_or xs i d) y → AllZip R (take (i + 1) xs) (ys ++ y ∷ [])
  one_more xs i d ys y h r s = rw add-one (more_at xs i d ys y h r s)

  tail_of : (x : X) (xs : List X) → (more : List Y) × AllZip R (x ∷ xs) more → (more : List Y) × AllZip R xs more
  tail_of x xs ([], r) = absurd r
  tail_of x xs (y ∷ ys, r) = (ys, r.1)

  pub one_less : (xs : List X) (i : ℕ) (d : X) → i < length xs → (more : List Y) × AllZip R (drop i xs) more
      → (more : List Y) × AllZip R (drop (i + 1) xs) more
  one_less xs i d h m = rw add-one (tail_of (get_or xs i d) (drop (suc i) xs) (rw (drop-cons xs i d h) at m))
