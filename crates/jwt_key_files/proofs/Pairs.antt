-- An ECDSA-Sig-Value holds one pair of numbers, and a pair in a token is that of one ECDSA-Sig-Value.
use Rattle.std.proofs.Common.{◌≡◌, ◌⊎◌, inl, inr, Some, ℕ, zero, suc, ◌-◌, ◌<◌, ◌≤◌, List, ◌∷◌, ◌++◌, length, take}
use Rattle.std.proofs.Common.{drop, refl, ap, sym, subst, ◌∙◌, arith}
use Rattle.std.specs.Prelude.{slice_index, replicate}
use Rattle.std.proofs.lemmas.List.{length-append, length-replicate}
use Rattle.std.proofs.Math.Seq.{take-append_seam, drop-append_seam}
use Rattle.jwt_base.specs.declared.algorithms.Algorithm.{Algorithm}
use Rattle.jwt_key_files.specs.Der.{IsPositive}
use Rattle.jwt_key_files.specs.EcdsaSignatures.{ecdsa_sig_value, filled, number_length, AreNumbersOf, IsSignatureOf}
use Rattle.jwt_key_files.specs.PublicKeys.{rsa_public_key}
use Rattle.jwt_key_files.proofs.Parts.{one_rsa_key}
use Rattle.jwt_key_files.proofs.Prefixes.{tails}

-- both are a SEQUENCE of two INTEGERs
pub as_rsa : (r s : List ℕ) → ecdsa_sig_value r s ≡ rsa_public_key r s
unfolding ecdsa_sig_value rsa_public_key
as_rsa r s = refl

not_zero : (m r : List ℕ) → IsPositive m → m ≡ (0 ∷ r) → ⊥
not_zero m r p e = let q : 0 < slice_index (0 ∷ r) 0 = rw e at p in omega (arith, q)

one_filled : (a b : ℕ) (m n : List ℕ) → IsPositive m → IsPositive n → (replicate a 0 ++ m) ≡ (replicate b 0 ++ n) → m ≡ n
one_filled zero zero m n p q e = e
one_filled zero (suc b) m n p q e = absurd (not_zero m (replicate b 0 ++ n) p e)
one_filled (suc a) zero m n p q e = absurd (not_zero n (replicate a 0 ++ m) q (sym e))
one_filled (suc a) (suc b) m n p q e = one_filled a b m n p q (tails 0 0 (replicate a 0 ++ m) (replicate b 0 ++ n) e)

size_of_filled : (size : ℕ) (m : List ℕ) → length m ≤ size → length (filled size m) ≡ size
size_of_filled size m l = omega (
  arith,
  length-append (replicate (size - length m) 0) m,
  length-replicate {A = ℕ} (size - length m) 0,
)

record SameHalves (a b c d : List ℕ) : Type 0 where
  first : a ≡ c
  second : b ≡ d

same_halves : (a b c d : List ℕ) → length a ≡ length c → (a ++ b) ≡ (c ++ d) → SameHalves a b c d
same_halves a b c d l e =
    let first : a ≡ c = sym (take-append_seam a b) ∙ ap (take (length a)) e ∙ ap (λ (n : ℕ). take n (c ++ d)) l
    ∙ take-append_seam c d in
    record {
      first = first;
      second = sym (drop-append_seam a b) ∙ ap (drop (length a)) e ∙ ap (λ (n : ℕ). drop n (c ++ d)) l ∙ drop-append_seam c d;
    }

pub one_signature : (size : ℕ) (d s t : List ℕ) → AreNumbersOf size d s → AreNumbersOf size d t → s ≡ t
one_signature size d s t x y =
    let same = one_rsa_key d x.r x.s y.r y.s x.r_is_positive x.s_is_positive y.r_is_positive y.s_is_positive
    (x.der_is ∙ as_rsa x.r x.s) (y.der_is ∙ as_rsa y.r y.s) in
    x.signature_is ∙ ap (λ (m : List ℕ). filled size m ++ filled size x.s) same.modulus
    ∙ ap (λ (m : List ℕ). filled size y.r ++ filled size m) same.exponent ∙ sym y.signature_is

pub one_value : (size : ℕ) (d f s : List ℕ) → AreNumbersOf size d s → AreNumbersOf size f s → d ≡ f
one_value size d f s x y =
    let halves = same_halves (filled size x.r) (filled size x.s) (filled size y.r) (filled size y.s)
    (size_of_filled size x.r x.r_fits ∙ sym (size_of_filled size y.r y.r_fits)) (sym x.signature_is ∙ y.signature_is) in
    let r : x.r ≡ y.r = one_filled (size - length x.r) (size - length y.r) x.r y.r x.r_is_positive y.r_is_positive
    halves.first in
    let s : x.s ≡ y.s = one_filled (size - length x.s) (size - length y.s) x.s y.s x.s_is_positive y.s_is_positive
    halves.second in
    x.der_is ∙ ap (λ (m : List ℕ). ecdsa_sig_value m x.s) r ∙ ap (ecdsa_sig_value y.r) s ∙ sym y.der_is

-- numbers that do not fit
pub too_long : (size : ℕ) (d r s : List ℕ) → IsPositive r → IsPositive s → d ≡ ecdsa_sig_value r s
    → (size < length r) ⊎ (size < length s) → (t : List ℕ) → AreNumbersOf size d t → ⊥
too_long size d r s p q e far t x =
    let same = one_rsa_key d r s x.r x.s p q x.r_is_positive x.s_is_positive (e ∙ as_rsa r s) (x.der_is ∙ as_rsa x.r x.s) in
    elim far [
      | inl l ↦ omega (arith, ap length same.modulus, x.r_fits, l)
      | inr l ↦ omega (arith, ap length same.exponent, x.s_fits, l)
    ]

-- the same for an algorithm whose numbers have this many octets
one_size : (a : Algorithm) (m n : ℕ) → number_length a ≡ Some m → number_length a ≡ Some n → m ≡ n
one_size a m n h i = let e : Some m ≡ Some n = sym h ∙ i in cc

pub only_signature : (a : Algorithm) (size : ℕ) (d s : List ℕ) → number_length a ≡ Some size → AreNumbersOf size d s
    → (t : List ℕ) → IsSignatureOf a d t → t ≡ s
only_signature a size d s h x t y =
    one_signature size d t s (subst (λ (n : ℕ). AreNumbersOf n d t) (one_size a y.0 size y.1.0 h) y.1.1) x

pub only_value : (a : Algorithm) (size : ℕ) (d s : List ℕ) → number_length a ≡ Some size → AreNumbersOf size d s
    → (f : List ℕ) → IsSignatureOf a f s → f ≡ d
only_value a size d s h x f y =
    one_value size f d s (subst (λ (n : ℕ). AreNumbersOf n f s) (one_size a y.0 size y.1.0 h) y.1.1) x
