-- Bytes are the DER of at most one key.
use Rattle.std.proofs.Common.{◌≡◌, inl, inr, ℕ, List, ap, sym, ◌∙◌}
use Rattle.jwt_keys.specs.Key.{Key, Components}
use Rattle.jwt_key_files.specs.PublicKeys.{identifier, subject_public_key_info, IsRsaKey, IsKeyOf, IsPublicKey}
use Rattle.jwt_key_files.specs.declared.scheme.Scheme.{Scheme}
use Rattle.jwt_key_files.specs.declared.scheme.Scheme.TheVariants as scheme
use Rattle.jwt_key_files.proofs.Parts.{one_info, no_two, one_rsa_key}
use Rattle.jwt_key_files.proofs.Identifiers.{one_scheme, moved}

rsa_key : (b : List ℕ) (k l : Key) → IsRsaKey b k → IsRsaKey b l → k ≡ l
rsa_key b k l h i =
    let s = one_rsa_key b h.0 h.1.0 i.0 i.1.0 h.1.1.1 h.1.1.2 i.1.1.1 i.1.1.2 h.1.1.3 i.1.1.3 in
    h.1.1.0 ∙ ap (λ (x : List ℕ). Components x h.1.0) s.modulus ∙ ap (Components i.0) s.exponent ∙ sym i.1.1.0

key_of : (s : Scheme) (o : List ℕ) (k l : Key) → IsKeyOf s o k → IsKeyOf s o l → k ≡ l
key_of scheme.Rsa o k l h i = rsa_key o k l h i
key_of scheme.P256 o k l h i = h.0 ∙ sym i.0
key_of scheme.P384 o k l h i = h.0 ∙ sym i.0
key_of scheme.Ed25519 o k l h i = h.0 ∙ sym i.0

pub one_key : (b : List ℕ) (k l : Key) → IsPublicKey b k → IsPublicKey b l → k ≡ l
one_key b k l h i = elim h [
  | inl r ↦ elim i [
    | inl s ↦ rsa_key b k l r s
    | inr s ↦ absurd (no_two b _ _ _ _ s.bytes_are r.1.1.3)
  ]
  | inr r ↦ elim i [
    | inl s ↦ absurd (no_two b _ _ _ _ r.bytes_are s.1.1.3)
    | inr s ↦
        let same = one_info b _ _ _ _ r.bytes_are s.bytes_are in
        key_of r.algorithm r.octets k l r.is_key
        (moved r.algorithm s.algorithm r.octets s.octets l (one_scheme r.algorithm s.algorithm same.algorithm)
        same.octets s.is_key)
  ]
]

-- the key of a SubjectPublicKeyInfo is the only one
pub only_key : (b a o : List ℕ) (s : Scheme) (key : Key) → b ≡ subject_public_key_info a o → a ≡ identifier s → IsKeyOf s o key
    → (k : Key) → IsPublicKey b k → k ≡ key
only_key b a o s key e named h k p =
    let whole = e ∙ ap (λ (x : List ℕ). subject_public_key_info x o) named in
    one_key b k key p (inr (record { algorithm = s; octets = o; bytes_are = whole; is_key = h }))
