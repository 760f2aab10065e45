-- The kind of an error, and the relations by which contracts describe a refusal.
use Rattle.std.specs.Prelude.{◌≡◌, ◌⊎◌, Option, Some, string_bytes}
use Rattle.jwt_base.specs.Kind.{Kind}
use Rattle.jwt_base.specs.Kind as kind
use Rattle.jwt_base.specs.declared.errors.ErrorKind.{ErrorKind}
use Rattle.jwt_base.specs.declared.errors.ErrorKind.TheVariants as held
use Rattle.jwt_base.specs.declared.errors.Error.{Error}

-- the kind, with its string by content
abbrev pub kind_held : ErrorKind → Kind
kind_held held.InvalidToken = kind.InvalidToken
kind_held held.InvalidSignature = kind.InvalidSignature
kind_held held.InvalidEcdsaKey = kind.InvalidEcdsaKey
kind_held held.InvalidEddsaKey = kind.InvalidEddsaKey
kind_held held.RsaFailedSigning = kind.RsaFailedSigning
kind_held held.InvalidAlgorithmName = kind.InvalidAlgorithmName
kind_held held.UnsupportedAlgorithm = kind.UnsupportedAlgorithm
kind_held held.InvalidKeyFormat = kind.InvalidKeyFormat
kind_held held.ExpiredSignature = kind.ExpiredSignature
kind_held held.InvalidIssuer = kind.InvalidIssuer
kind_held held.InvalidAudience = kind.InvalidAudience
kind_held held.InvalidSubject = kind.InvalidSubject
kind_held held.ImmatureSignature = kind.ImmatureSignature
kind_held held.InvalidAlgorithm = kind.InvalidAlgorithm
kind_held held.MissingAlgorithm = kind.MissingAlgorithm
kind_held (held.MissingRequiredClaim claim) = kind.MissingRequiredClaim (string_bytes claim)
kind_held (held.InvalidClaimFormat claim) = kind.InvalidClaimFormat (string_bytes claim)
kind_held (held.InvalidRsaKey message) = kind.InvalidRsaKey (string_bytes message)
kind_held (held.Signing message) = kind.Signing (string_bytes message)
kind_held (held.Provider message) = kind.Provider (string_bytes message)
kind_held held.Base64 = kind.Base64
kind_held held.Json = kind.Json
kind_held held.Utf8 = kind.Utf8
kind_held held.OutOfMemory = kind.OutOfMemory
kind_held held.ClockBeforeEpoch = kind.ClockBeforeEpoch
kind_held held.InvalidCrit = kind.InvalidCrit
kind_held held.NoKey = kind.NoKey

abbrev pub kind_of : Error → Kind
kind_of e = kind_held e.kind

-- memory ran out
abbrev pub IsMemory : Error → Type 0
IsMemory e = kind_of e ≡ kind.OutOfMemory

-- memory ran out, or the error has this kind; with None, memory ran out
abbrev pub Refuses : Option Kind → Error → Type 0
Refuses refusal e = IsMemory e ⊎ (refusal ≡ Some (kind_of e))

-- memory ran out, or the error has this kind, and P holds
abbrev pub RefusesAs : Kind → Type 0 → Error → Type 0
RefusesAs k P e = IsMemory e ⊎ ((kind_of e ≡ k) × P)
