-- Lemmas about contiguous parts of a list of bytes, and about `find`.
use Rattle.std.proofs.Common.{◌≡◌, ℕ, zero, suc, ◌+◌, ◌-◌, ◌<◌, List, [], ◌∷◌, ◌++◌, Bool, true, false, cond, Some}
use Rattle.std.proofs.Common.{None, length, get_or, take, drop, refl, ap, sym, subst, ◌∙◌, arith, append_assoc}
use Rattle.std.proofs.Common.{append-nil, length-append}
use Rattle.std.specs.Prelude.{map, find, flat_map, Contains, slice_range}
use Rattle.std.specs.List.{range_with_len}
use Rattle.std.proofs.lemmas.List.{length-map, get_or-map}
use Rattle.std.proofs.lemmas.List.Elements.{Contains-append_left, Contains-append_right}
use Rattle.std.proofs.lemmas.List.FromFn.{length-range_with_len, get_or-range_with_len}
use Rattle.std.proofs.Math.Seq.{take-append_seam, drop-append_seam}
use Rattle.jwt_key_files.specs.RsaComponents.{pieces_of, pairs_of}

-- elements of lists that are made of others
has_mapped : {A B : Type 0} (f : A → B) (xs : List A) (x : A) → Contains xs x → Contains (map f xs) (f x)
has_mapped f xs x h = (h.0, omega (arith, h.1, length-map xs f), get_or-map f xs h.0 x (f x) h.1 ∙ ap f h.2)

has_joined : {A B : Type 0} (f : A → List B) (xs : List A) (x : A) (y : B) (k : ℕ) → k < length xs → get_or xs k x ≡ x
    → Contains (f x) y
    → Contains (flat_map f xs) y
has_joined f [] x y k l e m = absurd (omega arith)
has_joined f (z ∷ xs) x y zero l e m =
    Contains-append_left (f z) (flat_map f xs) y (subst (λ a. Contains (f a) y) (sym e) m)
has_joined f (z ∷ xs) x y (suc k) l e m =
    Contains-append_right (f z) (flat_map f xs) y (has_joined f xs x y k (omega arith) e m)

has_place : (n k : ℕ) → k < n → Contains (range_with_len 0 n) k
has_place n k l =
    (k, omega (arith, length-range_with_len 0 n), let e = get_or-range_with_len 0 n k k l in omega arith)

-- the piece is a contiguous part of the bytes
pub record Holds (piece bytes : List ℕ) : Type 0 where
  pub before : List ℕ
  pub after : List ℕ
  pub bytes_are : bytes ≡ before ++ (piece ++ after)

pub held : (x : List ℕ) → Holds x x
held x = record { before = []; after = []; bytes_are = simp append-nil }

pub held_after : (a x b : List ℕ) → Holds x b → Holds x (a ++ b)
held_after a x b h = record {
  before = a ++ h.before;
  after = h.after;
  bytes_are = ap (λ (y : List ℕ). a ++ y) h.bytes_are ∙ sym (append_assoc a h.before (x ++ h.after));
}

pub held_before : (x b c : List ℕ) → Holds x b → Holds x (b ++ c)
held_before x b c h = record {
  before = h.before;
  after = h.after ++ c;
  bytes_are = ap (λ (y : List ℕ). y ++ c) h.bytes_are ∙ simp append_assoc;
}

-- a contiguous part is one of the pieces of the bytes
cut_out : (a x c : List ℕ) → slice_range (a ++ (x ++ c)) (length a) (length a + length x) ≡ x
cut_out a x c =
    let e : length a + length x - length a ≡ length x = omega arith in
    ap (λ (n : ℕ). take n (drop (length a) (a ++ (x ++ c)))) e
    ∙ ap (take (length x)) (drop-append_seam a (x ++ c))
    ∙ take-append_seam x c

long_enough : (a x c : List ℕ) → length a + length x < length (a ++ (x ++ c)) + 1
long_enough a x c = omega (arith, length-append a (x ++ c), length-append x c)

places_of : List ℕ → List ℕ
places_of b = range_with_len 0 (length b + 1)

pieces_are : (b : List ℕ) → pieces_of b ≡ flat_map (λ i. map (λ j. slice_range b i j) (places_of b)) (places_of b)
unfolding pieces_of places_of
pieces_are b = refl

is_place : (b : List ℕ) (k : ℕ) → k < length b + 1 → Contains (places_of b) k
unfolding places_of
is_place b k l = has_place (length b + 1) k l

a_piece : (a x c : List ℕ) → Contains (pieces_of (a ++ (x ++ c))) x
a_piece a x c =
    let b : List ℕ = a ++ (x ++ c) in
    let l = long_enough a x c in
    let from = is_place b (length a) (omega arith) in
    let to = is_place b (length a + length x) l in
    let row = has_mapped (λ j. slice_range b (length a) j) (places_of b) (length a + length x) to in
    let cell : Contains (map (λ j. slice_range b (length a) j) (places_of b)) x =
    subst (λ y. Contains (map (λ j. slice_range b (length a) j) (places_of b)) y) (cut_out a x c) row in
    subst (λ ps. Contains ps x) (sym (pieces_are b))
    (has_joined (λ i. map (λ j. slice_range b i j) (places_of b)) (places_of b) (length a) x from.0 from.1 from.2 cell)

pub is_piece : (x b : List ℕ) → Holds x b → Contains (pieces_of b) x
is_piece x b h = subst (λ c. Contains (pieces_of c) x) (sym h.bytes_are) (a_piece h.before x h.after)

pub is_pair : (ls : List (List ℕ)) (x y : List ℕ) → Contains ls x → Contains ls y → Contains (pairs_of ls) (x, y)
unfolding pairs_of
is_pair ls x y h i =
    has_joined (λ n. map (λ e. (n, e)) ls) ls x (x, y) h.0 h.1 h.2 (has_mapped (λ e. (x, e)) ls y i)

-- the element that `find` returns passes, and `find` returns one if an element passes
pub found_passes : {A : Type 0} (p : A → Bool) (xs : List A) (y : A) → find p xs ≡ Some y → p y ≡ true
found_passes p [] y e = cc
found_passes {A} p (x ∷ xs) y e = by (p x) refl (found_passes p xs y) e
  where
    by : (b : Bool) → p x ≡ b → (find p xs ≡ Some y → p y ≡ true) → cond b (Some x) (find p xs) ≡ Some y → p y ≡ true
    by true h rest f = let same : x ≡ y = cc in ap p (sym same) ∙ h
    by false h rest f = rest f

pub not_missed : {A : Type 0} (p : A → Bool) (xs : List A) (y : A) (k : ℕ) → k < length xs → get_or xs k y ≡ y
    → p y ≡ true → find p xs ≡ None → ⊥
not_missed p [] y k l e h f = omega arith
not_missed p (x ∷ xs) y zero l e h f =
    let g : cond true (Some x) (find p xs) ≡ None = ap (λ b. cond b (Some x) (find p xs)) (sym (ap p e ∙ h)) ∙ f in cc
not_missed {A} p (x ∷ xs) y (suc k) l e h f = by (p x) (not_missed p xs y k (omega arith) e h) f
  where
    by : (b : Bool) → (find p xs ≡ None → ⊥) → cond b (Some x) (find p xs) ≡ None → ⊥
    by true rest g = cc
    by false rest g = rest g
