-- The components of an RSAPublicKey are found in its bytes; other bytes have no components.
use Rattle.std.proofs.Common.{◌≡◌, inl, inr, ℕ, List, [], ◌∷◌, ◌++◌, Option, Some, None, length, refl, ap, ◌∙◌}
use Rattle.std.specs.Prelude.{slice_index, Decides}
use Rattle.std.proofs.lemmas.Bool.{cases_lt}
use Rattle.std.proofs.lemmas.Bool.Decides.{Decides-and, Decides-ltb}
use Rattle.std.proofs.lemmas.Slice.Eq.{bytes_eq-Decides}
use Rattle.jwt_key_files.specs.Der.{element, length_octets, signed, integer, sequence, IsPositive}
use Rattle.jwt_key_files.specs.PublicKeys.{rsa_public_key}
use Rattle.jwt_key_files.specs.RsaComponents.{pieces_of, pairs_of, is_of_numbers, rsa_components}
use Rattle.jwt_key_files.proofs.Parts.{low, high, one_rsa_key}
use Rattle.jwt_key_files.proofs.Pieces.{Holds, held, held_after, held_before, is_piece, is_pair, found_passes, not_missed}

-- both numbers stand in the bytes
in_signed : (n : List ℕ) → Holds n (signed n)
in_signed n = elim (cases_lt (slice_index n 0) 0x80) [
  | inl a ↦ rw (low n a) (held n)
  | inr a ↦ rw (high n a) (held_after (0 ∷ []) n n (held n))
]

in_element : (t : ℕ) (x c : List ℕ) → Holds x c → Holds x (element t c)
unfolding element
in_element t x c h = held_after (t ∷ length_octets (length c)) x c h

in_integer : (n : List ℕ) → Holds n (integer n)
unfolding integer
in_integer n = in_element 2 n (signed n) (in_signed n)

in_key : (x n e : List ℕ) → Holds x (integer n ++ integer e) → Holds x (rsa_public_key n e)
unfolding rsa_public_key sequence
in_key x n e h = in_element 0x30 x (integer n ++ integer e) h

modulus_in : (n e : List ℕ) → Holds n (rsa_public_key n e)
modulus_in n e = in_key n n e (held_before n (integer n) (integer e) (in_integer n))

exponent_in : (n e : List ℕ) → Holds e (rsa_public_key n e)
exponent_in n e = in_key e n e (held_after (integer n) e (integer e) (in_integer e))

-- what the test says of two numbers
pub record IsOfNumbers (b n e : List ℕ) : Type 0 where
  pub bytes_are : b ≡ rsa_public_key n e
  pub modulus : IsPositive n
  pub exponent : IsPositive e

tests : (b n e : List ℕ) → Decides (is_of_numbers b (n, e)) ((b ≡ rsa_public_key n e) × (IsPositive n × IsPositive e))
unfolding is_of_numbers
tests b n e =
    Decides-and _ _ (bytes_eq-Decides b (rsa_public_key n e))
    (Decides-and _ _ (Decides-ltb 0 (slice_index n 0)) (Decides-ltb 0 (slice_index e 0)))

pub found : (b n e : List ℕ) → rsa_components b ≡ Some (n, e) → IsOfNumbers b n e
unfolding rsa_components
found b n e h =
    let t = (tests b n e).0 (found_passes (is_of_numbers b) (pairs_of (pieces_of b)) (n, e) h) in
    record { bytes_are = t.0; modulus = t.1.0; exponent = t.1.1 }

some_found : (b n e : List ℕ) → IsOfNumbers b n e → rsa_components b ≡ None → ⊥
unfolding rsa_components
some_found b n e h f =
    let g : Holds n b = rw h.bytes_are (modulus_in n e) in
    let i : Holds e b = rw h.bytes_are (exponent_in n e) in
    let p = is_pair (pieces_of b) n e (is_piece n b g) (is_piece e b i) in
    let yes = (tests b n e).1 (h.bytes_are, (h.modulus, h.exponent)) in
    not_missed (is_of_numbers b) (pairs_of (pieces_of b)) (n, e) p.0 p.1 p.2 yes f

-- the numbers of an RSAPublicKey, and none of other bytes
abbrev pair_of : (n e : List ℕ) → List ℕ × List ℕ
pair_of n e = (n, e)

same_pair : (b m d n e : List ℕ) → IsOfNumbers b m d → IsOfNumbers b n e → pair_of m d ≡ pair_of n e
same_pair b m d n e h i =
    let s = one_rsa_key b m d n e h.modulus h.exponent i.modulus i.exponent h.bytes_are i.bytes_are in
    ap (λ (x : List ℕ). pair_of x d) s.modulus ∙ ap (pair_of n) s.exponent

by_answer : (b n e : List ℕ) → IsOfNumbers b n e → (o : Option (List ℕ × List ℕ)) → rsa_components b ≡ o
    → rsa_components b ≡ Some (n, e)
by_answer b n e h None f = absurd (some_found b n e h f)
by_answer b n e h (Some p) f = f ∙ ap Some (same_pair b p.0 p.1 n e (found b p.0 p.1 f) h)

pub the_components : (b n e : List ℕ) → IsPositive n → IsPositive e → b ≡ rsa_public_key n e → rsa_components b ≡ Some (n, e)
the_components b n e p q h =
    by_answer b n e (record { bytes_are = h; modulus = p; exponent = q }) (rsa_components b) refl

none_by : (b : List ℕ) → ((n e : List ℕ) → IsOfNumbers b n e → ⊥) → (o : Option (List ℕ × List ℕ))
    → rsa_components b ≡ o → rsa_components b ≡ None
none_by b none None f = f
none_by b none (Some p) f = absurd (none p.0 p.1 (found b p.0 p.1 f))

pub no_components : (b : List ℕ) → ((n : List ℕ) (e : List ℕ) → IsPositive n → IsPositive e → b ≡ rsa_public_key n e
    → ⊥) → rsa_components b ≡ None
no_components b none =
    none_by b (λ n e h. none n e h.modulus h.exponent h.bytes_are) (rsa_components b) refl
