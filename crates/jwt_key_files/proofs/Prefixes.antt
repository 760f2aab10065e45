-- What bytes begin with: at most one length, and at most one element with a tag.
use Rattle.std.proofs.Common.{◌≡◌, ◌⊎◌, inl, inr, ℕ, ◌+◌, ◌-◌, ◌<◌, ◌≤◌, List, [], ◌∷◌, ◌++◌, length, take, ap, sym}
use Rattle.std.proofs.Common.{◌∙◌, arith, append_assoc}
use Rattle.std.proofs.lemmas.Bool.{cases_lt}
use Rattle.std.proofs.lemmas.Bool.Decides.{nat_tests}
use Rattle.std.proofs.lemmas.List.{append_cancel_left, append-nil, length-append}
use Rattle.std.proofs.Math.Seq.{take-append_seam}
use Rattle.jwt_key_files.specs.Der.{number_octets, length_octets, element}
use Rattle.jwt_key_files.proofs.Numbers.{one_number_octets}

pub heads : (a b : ℕ) (r s : List ℕ) → (a ∷ r) ≡ (b ∷ s) → a ≡ b
heads a b r s e = cc

pub tails : (a b : ℕ) (r s : List ℕ) → (a ∷ r) ≡ (b ∷ s) → r ≡ s
tails a b r s e = cc

-- the octets of a length, by its form
pub short : (n : ℕ) → n < 0x80 → length_octets n ≡ n ∷ []
unfolding length_octets
short n s = grind (arith, nat_tests)

pub long : (n : ℕ) → 0x80 ≤ n → length_octets n ≡ (0x80 + length (number_octets n)) ∷ number_octets n
unfolding length_octets
long n a = grind (arith, nat_tests)

-- what follows from the first byte, if bytes begin with a length
pub record StartsShort (m n : ℕ) (r s : List ℕ) : Type 0 where
  pub number : n ≡ m
  pub below : m < 0x80
  pub rest : r ≡ s

pub record StartsLong (m n : ℕ) (r s : List ℕ) : Type 0 where
  pub first : m ≡ 0x80 + length (number_octets n)
  pub above : 0x80 ≤ n
  pub rest : r ≡ (number_octets n ++ s)

pub starts : (m n : ℕ) (r s : List ℕ) → (m ∷ r) ≡ (length_octets n ++ s) → StartsShort m n r s ⊎ StartsLong m n r s
starts m n r s e = elim (cases_lt n 0x80) [
  | inl b ↦ let f : (m ∷ r) ≡ (n ∷ s) = rw (short n b) at e in
      let h : m ≡ n = cc in
      inl (record { number = cc; below = omega (arith, b); rest = tails _ _ _ _ f })
  | inr b ↦ let f : (m ∷ r) ≡ ((0x80 + length (number_octets n)) ∷ number_octets n ++ s) = rw (long n b) at e in
      inr (record { first = heads _ _ _ _ f; above = b; rest = tails _ _ _ _ f })
]

pub some_octets : (n : ℕ) (s : List ℕ) → ([] ≡ (length_octets n ++ s)) → ⊥
some_octets n s e = elim (cases_lt n 0x80) [
  | inl b ↦ let f : [] ≡ (n ∷ s) = rw (short n b) at e in cc
  | inr b ↦ let f : [] ≡ ((0x80 + length (number_octets n)) ∷ number_octets n ++ s) = rw (long n b) at e in cc
]

-- bytes begin with one length
pub record SameLength (m n : ℕ) (r s : List ℕ) : Type 0 where
  pub number : m ≡ n
  pub rest : r ≡ s

pub one_length : (m n : ℕ) (r s : List ℕ) → (length_octets m ++ r) ≡ (length_octets n ++ s) → SameLength m n r s
one_length m n r s e = elim (cases_lt m 0x80) [
  | inl a ↦ elim (starts m n r s (rw (short m a) at e)) [
    | inl x ↦ record { number = sym x.number; rest = x.rest }
    | inr x ↦ absurd (omega (arith, x.first))
  ]
  | inr a ↦ elim (starts (0x80 + length (number_octets m)) n (number_octets m ++ r) s (rw (long m a) at e)) [
    | inl x ↦ absurd (omega (arith, x.below))
    | inr x ↦
        let same = one_number_octets m n r s (omega (arith, x.first)) x.rest in
        record { number = same.number; rest = same.rest }
  ]
]

-- and with one element of a tag
pub record SameContent (c d r s : List ℕ) : Type 0 where
  pub content : c ≡ d
  pub rest : r ≡ s

cut : (c d r s : List ℕ) → length c ≡ length d → (c ++ r) ≡ (d ++ s) → c ≡ d
cut c d r s n e = sym (take-append_seam c r) ∙ ap (λ (n : ℕ). take n (c ++ r)) n ∙ ap (take (length d)) e ∙ take-append_seam d s

of_cut : (c d r s : List ℕ) → length c ≡ length d → (c ++ r) ≡ (d ++ s) → SameContent c d r s
of_cut c d r s n e =
    let h = cut c d r s n e in
    let f : (c ++ r) ≡ (c ++ s) = e ∙ ap (λ (x : List ℕ). x ++ s) (sym h) in
    record { content = h; rest = append_cancel_left c r s f }

pub opened : (t : ℕ) (c r : List ℕ) → (element t c ++ r) ≡ (t ∷ length_octets (length c) ++ (c ++ r))
unfolding element
opened t c r = ap (λ (x : List ℕ). t ∷ x) (append_assoc (length_octets (length c)) c r)

pub one_element : (t : ℕ) (c d r s : List ℕ) → (element t c ++ r) ≡ (element t d ++ s) → SameContent c d r s
one_element t c d r s e =
    let f : (t ∷ length_octets (length c) ++ (c ++ r)) ≡ (t ∷ length_octets (length d) ++ (d ++ s)) = sym (opened t c r)
    ∙ e ∙ opened t d s in
    let g = one_length (length c) (length d) (c ++ r) (d ++ s) (tails _ _ _ _ f) in
    of_cut c d r s g.number g.rest

pub one_whole : (t : ℕ) (c d : List ℕ) → element t c ≡ element t d → c ≡ d
one_whole t c d e = (one_element t c d [] [] (ap (λ (x : List ℕ). x ++ []) e)).content

-- an element from its parts, and its parts
pub element_of : (t : ℕ) (c r b : List ℕ) → b ≡ (t ∷ length_octets (length c) ++ (c ++ r)) → b ≡ (element t c ++ r)
element_of t c r b e = e ∙ sym (opened t c r)

pub parts_of : (t : ℕ) (c r b : List ℕ) → b ≡ (element t c ++ r) → b ≡ (t ∷ length_octets (length c) ++ (c ++ r))
parts_of t c r b e = e ∙ opened t c r

pub appended_nil : (t : ℕ) (c b : List ℕ) → b ≡ element t c → b ≡ (element t c ++ [])
appended_nil t c b e = e ∙ sym (append-nil (element t c))

-- bytes that begin with no length
pub none_of_nil : (b : List ℕ) → b ≡ [] → (n : ℕ) (s : List ℕ) → b ≡ (length_octets n ++ s) → ⊥
none_of_nil b h n s e = some_octets n s (sym h ∙ e)

pub none_of_number : (m : ℕ) (r b : List ℕ) → b ≡ (m ∷ r) → 0x80 ≤ m
    → ((n : ℕ) (s : List ℕ) → n ≤ length s → length (number_octets n) ≡ m - 0x80 → r ≡ (number_octets n ++ s) → ⊥)
    → (n : ℕ) (s : List ℕ) → n ≤ length s → b ≡ (length_octets n ++ s) → ⊥
none_of_number m r b h l none n s k e = elim (starts m n r s (sym h ∙ e)) [
  | inl x ↦ omega (arith, x.below)
  | inr x ↦ none n s k (omega (arith, x.first)) x.rest
]

pub none_of_small : (m k : ℕ) (r q b : List ℕ) → b ≡ (m ∷ r) → 0x80 ≤ m → length (number_octets k) ≡ m - 0x80
    → r ≡ (number_octets k ++ q) → k < 0x80
    → (n : ℕ) (s : List ℕ) → b ≡ (length_octets n ++ s) → ⊥
none_of_small m k r q b h l c i j n s e = elim (starts m n r s (sym h ∙ e)) [
  | inl x ↦ omega (arith, x.below)
  | inr x ↦ omega (arith, x.above, (one_number_octets k n q s (omega (arith, x.first)) (sym i ∙ x.rest)).number)
]

-- and with a length
pub octets_short : (m : ℕ) (r b : List ℕ) → b ≡ (m ∷ r) → m < 0x80 → b ≡ (length_octets m ++ r)
octets_short m r b h l = rw (short m l) h

pub octets_long : (m k : ℕ) (r q b : List ℕ) → b ≡ (m ∷ r) → 0x80 ≤ m → length (number_octets k) ≡ m - 0x80
    → r ≡ (number_octets k ++ q) → 0x80 ≤ k
    → b ≡ (length_octets k ++ q)
octets_long m k r q b h l c i a =
    let f : m ≡ 0x80 + length (number_octets k) = omega arith in
    rw (long k a) (h ∙ ap (λ (x : ℕ). x ∷ r) f ∙ ap (λ (x : List ℕ). (0x80 + length (number_octets k)) ∷ x) i)

-- bytes that begin with no element of this tag
parts : (t : ℕ) (m : ℕ) (r b c s : List ℕ) → b ≡ (m ∷ r) → b ≡ (element t c ++ s)
    → (m ∷ r) ≡ (t ∷ length_octets (length c) ++ (c ++ s))
parts t m r b c s h e = sym h ∙ e ∙ opened t c s

pub no_element_of_nil : (t : ℕ) (b : List ℕ) → b ≡ [] → (c s : List ℕ) → b ≡ (element t c ++ s) → ⊥
no_element_of_nil t b h c s e = let f : [] ≡ (t ∷ length_octets (length c) ++ (c ++ s)) = sym h ∙ e ∙ opened t c s in cc

pub no_element_of_tag : (t m : ℕ) (r b : List ℕ) → b ≡ (m ∷ r) → (m ≡ t → ⊥) → (c s : List ℕ) → b ≡ (element t c ++ s) → ⊥
no_element_of_tag t m r b h n c s e = n (heads _ _ _ _ (parts t m r b c s h e))

pub no_element_of_length : (t m : ℕ) (r b : List ℕ) → b ≡ (m ∷ r)
    → ((n : ℕ) (s : List ℕ) → n ≤ length s → r ≡ (length_octets n ++ s) → ⊥)
    → (c s : List ℕ) → b ≡ (element t c ++ s) → ⊥
no_element_of_length t m r b h none c s e =
    none (length c) (c ++ s) (omega (arith, length-append c s)) (tails _ _ _ _ (parts t m r b c s h e))

pub no_element_of_short : (t m n : ℕ) (r b q : List ℕ) → b ≡ (m ∷ r) → r ≡ (length_octets n ++ q) → length q < n
    → (c s : List ℕ) → b ≡ (element t c ++ s) → ⊥
no_element_of_short t m n r b q h f l c s e =
    let g = one_length n (length c) q (c ++ s) (sym f ∙ tails _ _ _ _ (parts t m r b c s h e)) in
    omega (arith, ap length g.rest, length-append c s, g.number)

pub element_of_parts : (t m n : ℕ) (r b q c s : List ℕ) → b ≡ (m ∷ r) → m ≡ t → r ≡ (length_octets n ++ q)
    → length c ≡ n → q ≡ (c ++ s)
    → b ≡ (element t c ++ s)
element_of_parts t m n r b q c s h i f l e =
    let g : length_octets n ≡ length_octets (length c) = ap length_octets (sym l) in
    let k : (m ∷ r) ≡ (t ∷ length_octets (length c) ++ (c ++ s)) = cc in
    h ∙ k ∙ sym (opened t c s)

-- bytes that are no element of this tag
pub no_whole : (t : ℕ) (b : List ℕ) → ((c s : List ℕ) → b ≡ (element t c ++ s) → ⊥) → (c : List ℕ) → b ≡ element t c → ⊥
no_whole t b none c e = none c [] (appended_nil t c b e)

pub no_whole_of_more : (t : ℕ) (b c r : List ℕ) → b ≡ (element t c ++ r) → 0 < length r → (d : List ℕ) → b ≡ element t d → ⊥
no_whole_of_more t b c r h l d e =
    let g = one_element t c d r [] (sym h ∙ appended_nil t d b e) in
    omega (arith, ap length g.rest)

pub whole_of_nil : (t : ℕ) (b c r : List ℕ) → b ≡ (element t c ++ r) → length r ≡ 0 → b ≡ element t c
whole_of_nil t b c [] h l = h ∙ append-nil (element t c)
whole_of_nil t b c (x ∷ r) h l = absurd (omega arith)
