-- The line end that a file or an input may end with, and the secret of a file.
use Rattle.std.specs.Prelude.{◌≡◌, ◌⊎◌, ℕ, List, [], ◌∷◌, ◌++◌, Bool, true, false}

-- CR LF, or LF
abbrev pub line_feed : List ℕ
line_feed = 10 ∷ []

abbrev pub carriage_return : List ℕ
carriage_return = 13 ∷ 10 ∷ []

-- the front of the bytes, of which one line end is left out if they end with one
abbrev pub IsLessLineEnd : List ℕ → List ℕ → Type 0
IsLessLineEnd bytes front = (bytes ≡ front ++ carriage_return)
    ⊎ ((bytes ≡ front ++ line_feed) × ((rest : List ℕ) → ¬ (bytes ≡ rest ++ carriage_return)))
    ⊎ ((bytes ≡ front) × ((rest : List ℕ) → ¬ (bytes ≡ rest ++ line_feed)))

-- the secret of a file: its bytes, less one line end if it is trimmed
abbrev pub IsSecret : Bool → List ℕ → List ℕ → Type 0
IsSecret true bytes secret = IsLessLineEnd bytes secret
IsSecret false bytes secret = bytes ≡ secret
