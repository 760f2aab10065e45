-- The length of a body.
use Rattle.std.specs.Prelude.{◌≡◌, ◌≢◌, ◌≤◌, ◌<◌, ℕ, List, length, slice_index}

-- so many bytes stand before the first `-`, or all
pub record IsBodyLength (text : List ℕ) (n : ℕ) : Type 0 where
  pub within : n ≤ length text
  pub none : (k : ℕ) → k < n → slice_index text k ≢ 45
  pub ends : n < length text → slice_index text n ≡ 45
