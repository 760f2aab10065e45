-- A loop over a table: no entry so far is the one that is looked for, or one is.
use Rattle.std.proofs.Common.{◌≡◌, ℕ, ◌+◌, ◌<◌, ◌≤◌, List, [], Bor, length, take, get_or, map, refl, ap, sym, subst, ◌∙◌}
use Rattle.std.specs.List.{All, Any}
use Rattle.std.proofs.lemmas.List.{take_all, get_or_default}
use Rattle.std.proofs.Math.ListN.{get_or-map}
use Rattle.std.proofs.lemmas.List.Elements.{All-more}
use Rattle.jwt_secrets.specs.KeyTexts.{marks, all_tags, first_tags}

pub long_marks : length marks ≡ 11
unfolding marks
long_marks = refl

pub long_all_tags : length all_tags ≡ 5
unfolding all_tags
long_all_tags = refl

pub long_first_tags : length first_tags ≡ 2
unfolding first_tags
long_first_tags = refl

-- an entry, of which the loop has a reference
abbrev pub nowhere : Bor (List ℕ)
nowhere = record { ref_ptr = (0, 0); now = [] }

entry : (items : List (Bor (List ℕ))) (table : List (List ℕ)) (i : ℕ) → map (λ item. item.now) items ≡ table
    → (get_or items i nowhere).now ≡ get_or table i []
entry items table i e = sym (get_or-map (λ (item : Bor (List ℕ)). item.now) items i nowhere)
    ∙ ap (λ (xs : List (List ℕ)). get_or xs i []) e

pub some : (P : List ℕ → Type 0) (items : List (Bor (List ℕ))) (table : List (List ℕ)) (i : ℕ)
    → map (λ item. item.now) items ≡ table → i < length table
    → P (get_or items i nowhere).now → Any P table
some P items table i e within holds =
    (i, get_or table i [], within, get_or_default table i (get_or table i []) [] within, subst P (entry items table i e) holds)

pub none_more : (P : List ℕ → Type 0) (items : List (Bor (List ℕ))) (table : List (List ℕ)) (i : ℕ)
    → map (λ item. item.now) items ≡ table → i < length table
    → All (λ x. ¬ P x) (take i table) → ¬ P (get_or items i nowhere).now → All (λ x. ¬ P x) (take (i + 1) table)
none_more P items table i e within so_far fails =
    All-more (λ x. ¬ P x) table i [] within so_far (subst (λ (x : List ℕ). ¬ P x) (entry items table i e) fails)

pub none : (P : List ℕ → Type 0) (table : List (List ℕ)) (i : ℕ) → length table ≤ i → All (λ x. ¬ P x) (take i table)
    → Any P table → ⊥
none P table i past so_far found =
    let all : All (λ x. ¬ P x) table = subst (λ (xs : List (List ℕ)). All (λ x. ¬ P x) xs) (take_all i table past) so_far in
    all found.0 found.1 found.2 (subst P (sym found.3) found.4)
