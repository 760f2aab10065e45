-- The sameness of errors: the same kind, and the same string.
use Rattle.std.specs.Prelude.{◌≡◌, ◌&&◌, ◌==◌, ℕ, List, [], ◌∷◌, Bool, slice_get, unwrap_or, refl}
use Rattle.std.specs.Bool.{Decides}
use Rattle.std.specs.Cmp.{IsEquivalence}
use Rattle.std.specs.Str.{bytes_eq}
use Rattle.std.proofs.Common.{sym, ap, ◌∙◌}
use Rattle.std.proofs.lemmas.Slice.Eq.{bytes_eq-Decides}
use Rattle.std.proofs.lemmas.Bool.Decides.{Decides-eqb}
use Rattle.jwt_base.specs.equality.Decided.{decided_by, and_decides, same_as}
use Rattle.jwt_base.specs.Kind.{Kind, InvalidToken, InvalidSignature, InvalidEcdsaKey, InvalidEddsaKey}
use Rattle.jwt_base.specs.Kind.{RsaFailedSigning, InvalidAlgorithmName, UnsupportedAlgorithm, InvalidKeyFormat}
use Rattle.jwt_base.specs.Kind.{ExpiredSignature, InvalidIssuer, InvalidAudience, InvalidSubject, ImmatureSignature}
use Rattle.jwt_base.specs.Kind.{InvalidAlgorithm, MissingAlgorithm, MissingRequiredClaim, InvalidClaimFormat}
use Rattle.jwt_base.specs.Kind.{InvalidRsaKey, Signing, Provider, Base64, Json, Utf8, OutOfMemory, ClockBeforeEpoch}
use Rattle.jwt_base.specs.Kind.{InvalidCrit, NoKey}
use Rattle.jwt_base.specs.KindOf.{kind_held, kind_of}
use Rattle.jwt_base.specs.declared.errors.ErrorKind.{ErrorKind}
use Rattle.jwt_base.specs.declared.errors.Error.{Error}

-- the place of a kind in the list of all of them
abbrev number_of : Kind → ℕ
number_of InvalidToken = 0
number_of InvalidSignature = 1
number_of InvalidEcdsaKey = 2
number_of InvalidEddsaKey = 3
number_of RsaFailedSigning = 4
number_of InvalidAlgorithmName = 5
number_of UnsupportedAlgorithm = 6
number_of InvalidKeyFormat = 7
number_of ExpiredSignature = 8
number_of InvalidIssuer = 9
number_of InvalidAudience = 10
number_of InvalidSubject = 11
number_of ImmatureSignature = 12
number_of InvalidAlgorithm = 13
number_of MissingAlgorithm = 14
number_of (MissingRequiredClaim text) = 15
number_of (InvalidClaimFormat text) = 16
number_of (InvalidRsaKey text) = 17
number_of (Signing text) = 18
number_of (Provider text) = 19
number_of Base64 = 20
number_of Json = 21
number_of Utf8 = 22
number_of OutOfMemory = 23
number_of ClockBeforeEpoch = 24
number_of InvalidCrit = 25
number_of NoKey = 26

-- the string that a kind holds
abbrev held_text : Kind → List ℕ
held_text (MissingRequiredClaim text) = text
held_text (InvalidClaimFormat text) = text
held_text (InvalidRsaKey text) = text
held_text (Signing text) = text
held_text (Provider text) = text
held_text other = []

abbrev every_kind : List ℕ → List Kind
every_kind text = InvalidToken ∷ InvalidSignature ∷ InvalidEcdsaKey ∷ InvalidEddsaKey ∷ RsaFailedSigning
    ∷ InvalidAlgorithmName ∷ UnsupportedAlgorithm ∷ InvalidKeyFormat ∷ ExpiredSignature ∷ InvalidIssuer
    ∷ InvalidAudience ∷ InvalidSubject ∷ ImmatureSignature ∷ InvalidAlgorithm ∷ MissingAlgorithm
    ∷ MissingRequiredClaim text ∷ InvalidClaimFormat text ∷ InvalidRsaKey text ∷ Signing text ∷ Provider text ∷ Base64
    ∷ Json ∷ Utf8 ∷ OutOfMemory ∷ ClockBeforeEpoch ∷ InvalidCrit ∷ NoKey ∷ []

abbrev kind_at : ℕ → List ℕ → Kind
kind_at n text = unwrap_or (slice_get (every_kind text) n) NoKey

kind_kept : (k : Kind) → kind_at (number_of k) (held_text k) ≡ k
kind_kept InvalidToken = refl
kind_kept InvalidSignature = refl
kind_kept InvalidEcdsaKey = refl
kind_kept InvalidEddsaKey = refl
kind_kept RsaFailedSigning = refl
kind_kept InvalidAlgorithmName = refl
kind_kept UnsupportedAlgorithm = refl
kind_kept InvalidKeyFormat = refl
kind_kept ExpiredSignature = refl
kind_kept InvalidIssuer = refl
kind_kept InvalidAudience = refl
kind_kept InvalidSubject = refl
kind_kept ImmatureSignature = refl
kind_kept InvalidAlgorithm = refl
kind_kept MissingAlgorithm = refl
kind_kept (MissingRequiredClaim text) = refl
kind_kept (InvalidClaimFormat text) = refl
kind_kept (InvalidRsaKey text) = refl
kind_kept (Signing text) = refl
kind_kept (Provider text) = refl
kind_kept Base64 = refl
kind_kept Json = refl
kind_kept Utf8 = refl
kind_kept OutOfMemory = refl
kind_kept ClockBeforeEpoch = refl
kind_kept InvalidCrit = refl
kind_kept NoKey = refl

abbrev pub number_of_held : ErrorKind → ℕ
number_of_held k = number_of (kind_held k)

abbrev pub text_of_held : ErrorKind → List ℕ
text_of_held k = held_text (kind_held k)

abbrev pub kind_eq : ErrorKind → ErrorKind → Bool
kind_eq j k = (number_of_held j == number_of_held k) && bytes_eq (text_of_held j) (text_of_held k)

same_kind : (j k : Kind) → (number_of j ≡ number_of k) × (held_text j ≡ held_text k) → j ≡ k
same_kind j k p = sym (kind_kept j) ∙ (λ i. kind_at (p.0 i) (p.1 i)) ∙ kind_kept k

pub kind_decides : (j k : ErrorKind) → Decides (kind_eq j k) (kind_held j ≡ kind_held k)
kind_decides j k = same_as _
    (and_decides _ _ (Decides-eqb (number_of_held j) (number_of_held k)) (bytes_eq-Decides (text_of_held j) (text_of_held k)))
    (same_kind (kind_held j) (kind_held k))
    (λ e. (ap number_of e, ap held_text e))

pub kind_eq_equiv : IsEquivalence kind_eq
kind_eq_equiv = decided_by kind_eq kind_held kind_decides

abbrev pub error_eq : Error → Error → Bool
error_eq e f = kind_eq e.kind f.kind

pub error_eq_equiv : IsEquivalence error_eq
error_eq_equiv = decided_by error_eq kind_of (λ e f. kind_decides e.kind f.kind)
