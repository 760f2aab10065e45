-- The identifiers of the algorithms, octet by octet, and the refusals of a key.
use Rattle.std.proofs.Common.{◌≡◌, inl, inr, Bool, true, false, ℕ, List, [], ◌∷◌, length, refl, ap, sym, subst, ◌∙◌, arith}
use Rattle.std.specs.Cmp.Lexicographic.{pointwise}
use Rattle.std.proofs.Math.Dec.{eqb}
use Rattle.std.proofs.lemmas.Bool.Decides.{Decides-eqb}
use Rattle.std.proofs.lemmas.Slice.Eq.{slice_eq-Decides}
use Rattle.jwt_base.specs.Kind.{Kind}
use Rattle.jwt_base.specs.Kind as kind
use Rattle.jwt_keys.specs.Key.{Key}
use Rattle.jwt_key_files.specs.Der.{element, length_octets}
use Rattle.jwt_key_files.specs.PublicKeys.{identifier, object_identifier, subject_public_key_info, IsRsaKey, IsKeyOf}
use Rattle.jwt_key_files.specs.PublicKeys.{IsRefused, IsPrivateOrMalformed}
use Rattle.jwt_key_files.specs.declared.scheme.Scheme.{Scheme}
use Rattle.jwt_key_files.specs.declared.scheme.Scheme.TheVariants as scheme
use Rattle.jwt_key_files.proofs.Parts.{one_info, no_two, not_private_info}

abbrev pub octets_of : Scheme → List ℕ
octets_of scheme.Rsa = 6 ∷ 9 ∷ 0x2a ∷ 0x86 ∷ 0x48 ∷ 0x86 ∷ 0xf7 ∷ 0x0d ∷ 1 ∷ 1 ∷ 1 ∷ 5 ∷ 0 ∷ []
octets_of scheme.P256 = 6 ∷ 7 ∷ 0x2a ∷ 0x86 ∷ 0x48 ∷ 0xce ∷ 0x3d ∷ 2 ∷ 1 ∷ 6 ∷ 8 ∷ 0x2a ∷ 0x86 ∷ 0x48 ∷ 0xce ∷ 0x3d ∷ 3
    ∷ 1 ∷ 7 ∷ []
octets_of scheme.P384 = 6 ∷ 7 ∷ 0x2a ∷ 0x86 ∷ 0x48 ∷ 0xce ∷ 0x3d ∷ 2 ∷ 1 ∷ 6 ∷ 5 ∷ 0x2b ∷ 0x81 ∷ 4 ∷ 0 ∷ 0x22 ∷ []
octets_of scheme.Ed25519 = 6 ∷ 3 ∷ 0x2b ∷ 0x65 ∷ 0x70 ∷ []

pub identifier_is : (s : Scheme) → identifier s ≡ octets_of s
unfolding identifier object_identifier element length_octets
identifier_is scheme.Rsa = refl
identifier_is scheme.P256 = refl
identifier_is scheme.P384 = refl
identifier_is scheme.Ed25519 = refl

place : Scheme → ℕ
place scheme.Rsa = 13
place scheme.P256 = 19
place scheme.P384 = 16
place scheme.Ed25519 = 5

by_length : (s : Scheme) → length (octets_of s) ≡ place s
unfolding place
by_length scheme.Rsa = refl
by_length scheme.P256 = refl
by_length scheme.P384 = refl
by_length scheme.Ed25519 = refl

by_place : (s t : Scheme) → place s ≡ place t → s ≡ t
unfolding place
by_place scheme.Rsa scheme.Rsa e = refl
by_place scheme.Rsa scheme.P256 e = absurd (omega (arith, e))
by_place scheme.Rsa scheme.P384 e = absurd (omega (arith, e))
by_place scheme.Rsa scheme.Ed25519 e = absurd (omega (arith, e))
by_place scheme.P256 scheme.Rsa e = absurd (omega (arith, e))
by_place scheme.P256 scheme.P256 e = refl
by_place scheme.P256 scheme.P384 e = absurd (omega (arith, e))
by_place scheme.P256 scheme.Ed25519 e = absurd (omega (arith, e))
by_place scheme.P384 scheme.Rsa e = absurd (omega (arith, e))
by_place scheme.P384 scheme.P256 e = absurd (omega (arith, e))
by_place scheme.P384 scheme.P384 e = refl
by_place scheme.P384 scheme.Ed25519 e = absurd (omega (arith, e))
by_place scheme.Ed25519 scheme.Rsa e = absurd (omega (arith, e))
by_place scheme.Ed25519 scheme.P256 e = absurd (omega (arith, e))
by_place scheme.Ed25519 scheme.P384 e = absurd (omega (arith, e))
by_place scheme.Ed25519 scheme.Ed25519 e = refl

pub one_scheme : (s t : Scheme) → identifier s ≡ identifier t → s ≡ t
one_scheme s t e =
    by_place s t (sym (by_length s) ∙ ap length (sym (identifier_is s) ∙ e ∙ identifier_is t) ∙ by_length t)

-- octets that were compared with those of an identifier
pub is_identifier : (s : Scheme) (xs ys : List ℕ) (r : Bool) → r ≡ pointwise eqb xs ys → ys ≡ octets_of s → r ≡ true
    → xs ≡ identifier s
is_identifier s xs ys r h y equal = (slice_eq-Decides Decides-eqb xs ys r h).0 equal ∙ y ∙ sym (identifier_is s)

pub not_identifier : (s : Scheme) (xs ys : List ℕ) (r : Bool) → r ≡ pointwise eqb xs ys → ys ≡ octets_of s → r ≡ false
    → xs ≡ identifier s → ⊥
not_identifier s xs ys r h y unequal e =
    let equal : r ≡ true = (slice_eq-Decides Decides-eqb xs ys r h).1 (e ∙ identifier_is s ∙ sym y) in cc

pub no_identifier : (xs : List ℕ) → (xs ≡ identifier scheme.Rsa → ⊥) → (xs ≡ identifier scheme.P256 → ⊥)
    → (xs ≡ identifier scheme.P384 → ⊥) → (xs ≡ identifier scheme.Ed25519 → ⊥) → (s : Scheme) → xs ≡ identifier s → ⊥
no_identifier xs f g h i scheme.Rsa = f
no_identifier xs f g h i scheme.P256 = g
no_identifier xs f g h i scheme.P384 = h
no_identifier xs f g h i scheme.Ed25519 = i

-- the refusals of bytes that are no SubjectPublicKeyInfo, of one of another algorithm, and of one whose octets are no key
pub refused_rsa : (b : List ℕ) (x : Kind) → IsPrivateOrMalformed b x → ((a k : List ℕ) → b ≡ subject_public_key_info a k → ⊥)
    → ((k : Key) → IsRsaKey b k → ⊥) → IsRefused b x
refused_rsa b x h none rsa = record {
  none = λ key p. elim p [ inl r ↦ rsa key r | inr i ↦ none _ _ i.bytes_are ];
  why = elim h [ inl p ↦ inl p | inr m ↦ inr (inr (m.0, m.1, λ n. none _ _ n.bytes_are)) ];
}

pub refused_another : (b : List ℕ) (x : Kind) (a o : List ℕ) → x ≡ kind.UnsupportedAlgorithm → b ≡ subject_public_key_info a o
    → ((s : Scheme) → a ≡ identifier s → ⊥) → IsRefused b x
refused_another b x a o h e other = record {
  none = λ key p. elim p [
    | inl r ↦ no_two b a o _ _ e r.1.1.3
    | inr i ↦ other i.algorithm (one_info b a o _ _ e i.bytes_are).algorithm
  ];
  why = inr (inl (h, record { algorithm = a; octets = o; bytes_are = e; is_other = other }));
}

pub moved : (s t : Scheme) (o p : List ℕ) (key : Key) → s ≡ t → o ≡ p → IsKeyOf t p key → IsKeyOf s o key
moved s t o p key e f h =
    let g : IsKeyOf s p key = subst (λ (x : Scheme). IsKeyOf x p key) (sym e) h in
    subst (λ (x : List ℕ). IsKeyOf s x key) (sym f) g

pub refused_key : (b : List ℕ) (x : Kind) (s : Scheme) (a o : List ℕ) → x ≡ kind.InvalidKeyFormat
    → b ≡ subject_public_key_info a o
    → a ≡ identifier s → ((k : Key) → IsKeyOf s o k → ⊥) → IsRefused b x
refused_key b x s a o h e named none = record {
  none = λ key p. elim p [
    | inl r ↦ no_two b a o _ _ e r.1.1.3
    | inr i ↦
        let same = one_info b a o _ _ e i.bytes_are in
        none key (moved s i.algorithm o i.octets key (one_scheme s i.algorithm (sym named ∙ same.algorithm)) same.octets
        i.is_key)
  ];
  why = inr (inr (h, not_private_info b a o e, λ n. n.is_other s (sym (one_info b a o _ _ e n.bytes_are).algorithm ∙ named)));
}
