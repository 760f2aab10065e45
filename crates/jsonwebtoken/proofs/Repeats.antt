-- A list with no string at two places, as a walk finds out.
use Rattle.std.proofs.Common.{◌≡◌, ◌≢◌, ℕ, ◌+◌, ◌<◌, ◌≤◌, List, true, false, length, get_or, take, bytes_eq, sym, ◌∙◌, arith}
use Rattle.std.specs.List.{AllPairs}
use Rattle.std.proofs.lemmas.List.{get_or-take, get_or_default, length-take-le}
use Rattle.std.proofs.lemmas.Slice.Eq.{bytes_eq-Decides}
use borrow.Author.Count.{below_more}

-- no string stands at two places below n
abbrev pub ApartBelow : List (List ℕ) → ℕ → Type 0
ApartBelow names n = (j : ℕ) → j < n → (i : ℕ) (d : List ℕ) → i < j → get_or names i d ≢ get_or names j d

-- a string that stands before is repeated
pub repeated : (names : List (List ℕ)) (j : ℕ) (x : List ℕ) → j < length names → x ≡ get_or names j x
    → ((k : ℕ) × (k < length (take j names)) × ((d : List ℕ) → bytes_eq (get_or (take j names) k d) x ≡ true))
    → AllPairs (λ a b. a ≢ b) names → ⊥
repeated names j x below is (k, inside, same) apart =
    let before : k < j = omega (arith, length-take-le j names) in
    let equal : get_or (take j names) k x ≡ x = (bytes_eq-Decides (get_or (take j names) k x) x).0 (same x) in
    apart k j x before below (sym (get_or-take j names k x before) ∙ equal ∙ is)

here_apart : (names : List (List ℕ)) (j : ℕ) (x : List ℕ) → j < length names → x ≡ get_or names j x
    → ((k : ℕ) (d : List ℕ) → 0 ≤ k → k < length (take j names) → bytes_eq (get_or (take j names) k d) x ≡ false)
    → (i : ℕ) (d : List ℕ) → i < j → get_or names i d ≢ get_or names j d
here_apart names j x below is none i d before same =
    let inside : i < length (take j names) = omega (arith, length-take-le j names) in
    let equal : get_or (take j names) i d ≡ x = get_or-take j names i d before ∙ same ∙ get_or_default names j d x below
    ∙ sym is in
    let yes = (bytes_eq-Decides (get_or (take j names) i d) x).1 equal in
    let no = none i d (omega arith) inside in cc

-- a string that does not stand before is not repeated so far
pub still_apart : (names : List (List ℕ)) (j : ℕ) (x : List ℕ) → j < length names → x ≡ get_or names j x
    → ((k : ℕ) (d : List ℕ) → 0 ≤ k → k < length (take j names) → bytes_eq (get_or (take j names) k d) x ≡ false)
    → ApartBelow names j → ApartBelow names (j + 1)
still_apart names j x below is none earlier =
    below_more (λ k. (i : ℕ) (d : List ℕ) → i < k → get_or names i d ≢ get_or names k d) j earlier
    (here_apart names j x below is none)

pub all_apart : (names : List (List ℕ)) (n : ℕ) → length names ≤ n → ApartBelow names n → AllPairs (λ a b. a ≢ b) names
all_apart names n whole apart i j d before below = apart j (omega arith) i d before
