-- Texts and their beginnings.
use Rattle.std.proofs.Common.{◌≡◌, inl, inr, true, false, ℕ, ◌<◌, List, [], ◌++◌, length, take, drop, refl, ap, sym, subst, ◌∙◌}
use Rattle.std.specs.Prelude.{codes}
use Rattle.std.specs.Cmp.Lexicographic.{pointwise}
use Rattle.std.proofs.Math.Dec.{eqb}
use Rattle.std.proofs.Math.Seq.{take-append_seam}
use Rattle.std.proofs.lemmas.Bool.Decides.{Decides-eqb}
use Rattle.std.proofs.lemmas.Bool.{cases_lt}
use Rattle.std.proofs.lemmas.Slice.Eq.{slice_eq-Decides}
use Rattle.std.proofs.lemmas.List.{append_cancel_left, take-append-drop, drop_all}
use Rattle.jwt_key_files.specs.Pem.{EndsLine, IsClosed, Begins}

-- bytes that were compared with a prefix
pub no_prefix : (p b : List ℕ) → pointwise eqb (take (length p) b) p ≡ false → (rest : List ℕ) → b ≡ p ++ rest → ⊥
no_prefix p b unequal rest e =
    let f : take (length p) b ≡ p = ap (take (length p)) e ∙ take-append_seam p rest in
    let equal : pointwise eqb (take (length p) b) p ≡ true =
    (slice_eq-Decides Decides-eqb (take (length p) b) p (pointwise eqb (take (length p) b) p) refl).1 f in
    cc

pub a_prefix : (p b x : List ℕ) → pointwise eqb (take (length p) b) p ≡ true → x ≡ drop (length p) b → b ≡ p ++ x
a_prefix p b x equal e =
    let f : take (length p) b ≡ p =
    (slice_eq-Decides Decides-eqb (take (length p) b) p (pointwise eqb (take (length p) b) p) refl).0 equal in
    sym (take-append-drop (length p) b) ∙ ap (λ (s : List ℕ). s ++ drop (length p) b) f ∙ ap (λ (s : List ℕ). p ++ s) (sym e)

-- what follows a label
pub no_dashes : (label b r : List ℕ) → b ≡ label ++ r → ((s : List ℕ) → r ≡ codes "-----" ++ s → ⊥)
    → (s : List ℕ) → b ≡ label ++ (codes "-----" ++ s) → ⊥
no_dashes label b r h none s e = none s (append_cancel_left label r (codes "-----" ++ s) (sym h ∙ e))

pub an_opening : (label b r s : List ℕ) → b ≡ label ++ r → r ≡ codes "-----" ++ s → b ≡ label ++ (codes "-----" ++ s)
an_opening label b r s h i = h ∙ ap (λ (x : List ℕ). label ++ x) i

-- what follows the mark of an end
pub no_label : (label b r : List ℕ) → b ≡ codes "-----END " ++ r → ((s : List ℕ) → r ≡ label ++ s → ⊥)
    → (s : List ℕ) → b ≡ codes "-----END " ++ (label ++ (codes "-----" ++ s)) → ⊥
no_label label b r h none s e =
    none (codes "-----" ++ s) (append_cancel_left (codes "-----END ") r (label ++ (codes "-----" ++ s)) (sym h ∙ e))

pub no_last : (label b r t : List ℕ) → b ≡ codes "-----END " ++ r → r ≡ label ++ t → ((s : List ℕ) → t ≡ codes "-----" ++ s → ⊥)
    → (s : List ℕ) → b ≡ codes "-----END " ++ (label ++ (codes "-----" ++ s)) → ⊥
no_last label b r t h i none s e =
    none s (append_cancel_left label t (codes "-----" ++ s)
    (sym i ∙ append_cancel_left (codes "-----END ") r (label ++ (codes "-----" ++ s)) (sym h ∙ e)))

pub a_closing : (label b r t s : List ℕ) → b ≡ codes "-----END " ++ r → r ≡ label ++ t → t ≡ codes "-----" ++ s
    → b ≡ codes "-----END " ++ (label ++ (codes "-----" ++ s))
a_closing label b r t s h i k = h ∙ ap (λ (x : List ℕ). codes "-----END " ++ x) (i ∙ ap (λ (x : List ℕ). label ++ x) k)

pub rest_of_closing : (label b s t : List ℕ) → b ≡ codes "-----END " ++ (label ++ (codes "-----" ++ s))
    → b ≡ codes "-----END " ++ (label ++ (codes "-----" ++ t)) → s ≡ t
rest_of_closing label b s t h i =
    append_cancel_left (codes "-----") s t (append_cancel_left label (codes "-----" ++ s) (codes "-----" ++ t)
    (append_cancel_left (codes "-----END ") (label ++ (codes "-----" ++ s)) (label ++ (codes "-----" ++ t)) (sym h ∙ i)))

pub closed_ends : (label b s : List ℕ) → b ≡ codes "-----END " ++ (label ++ (codes "-----" ++ s)) → IsClosed label b
    → EndsLine s
closed_ends label b s h x = subst EndsLine (sym (rest_of_closing label b s x.after h x.text_is)) x.ends

-- the place of the first block is within the text
pub place_in : (text b : List ℕ) (k : ℕ) → Begins text k b → k < length text
place_in text b k x = elim (cases_lt k (length text)) [
  | inl l ↦ l
  | inr g ↦ let f : [] ≡ codes "-----BEGIN " ++ b = sym (drop_all k text g) ∙ x.mark in cc
]
