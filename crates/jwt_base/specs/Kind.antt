-- The kinds of errors as contracts see them: strings by their bytes.
use Rattle.std.specs.Prelude.{ℕ, List, ◌++◌, codes}

pub data Kind : Type 0 where
  InvalidToken : Kind
  InvalidSignature : Kind
  InvalidEcdsaKey : Kind
  InvalidEddsaKey : Kind
  RsaFailedSigning : Kind
  InvalidAlgorithmName : Kind
  UnsupportedAlgorithm : Kind
  InvalidKeyFormat : Kind
  ExpiredSignature : Kind
  InvalidIssuer : Kind
  InvalidAudience : Kind
  InvalidSubject : Kind
  ImmatureSignature : Kind
  InvalidAlgorithm : Kind
  MissingAlgorithm : Kind
  MissingRequiredClaim : List ℕ → Kind
  InvalidClaimFormat : List ℕ → Kind
  InvalidRsaKey : List ℕ → Kind
  Signing : List ℕ → Kind
  Provider : List ℕ → Kind
  Base64 : Kind
  Json : Kind
  Utf8 : Kind
  OutOfMemory : Kind
  ClockBeforeEpoch : Kind
  InvalidCrit : Kind
  NoKey : Kind

-- the text that is displayed
abbrev pub text_of : Kind → List ℕ
text_of InvalidToken = codes "InvalidToken"
text_of InvalidSignature = codes "InvalidSignature"
text_of InvalidEcdsaKey = codes "InvalidEcdsaKey"
text_of InvalidEddsaKey = codes "InvalidEddsaKey"
text_of RsaFailedSigning = codes "RsaFailedSigning"
text_of InvalidAlgorithmName = codes "InvalidAlgorithmName"
text_of UnsupportedAlgorithm = codes "UnsupportedAlgorithm"
text_of InvalidKeyFormat = codes "InvalidKeyFormat"
text_of ExpiredSignature = codes "ExpiredSignature"
text_of InvalidIssuer = codes "InvalidIssuer"
text_of InvalidAudience = codes "InvalidAudience"
text_of InvalidSubject = codes "InvalidSubject"
text_of ImmatureSignature = codes "ImmatureSignature"
text_of InvalidAlgorithm = codes "InvalidAlgorithm"
text_of MissingAlgorithm = codes "MissingAlgorithm"
text_of (MissingRequiredClaim claim) = codes "Missing required claim: " ++ claim
text_of (InvalidClaimFormat claim) = codes "Invalid format for claim: " ++ claim
text_of (InvalidRsaKey message) = codes "RSA key invalid: " ++ message
text_of (Signing message) = codes "Signing failed: " ++ message
text_of (Provider message) = codes "Custom provider error: " ++ message
text_of Base64 = codes "Base64 error"
text_of Json = codes "JSON error"
text_of Utf8 = codes "UTF-8 error"
text_of OutOfMemory = codes "Out of memory"
text_of ClockBeforeEpoch = codes "Clock before 1970"
text_of InvalidCrit = codes "InvalidCrit"
text_of NoKey = codes "NoKey"

-- the name of the kind, without the string that it holds
abbrev pub kind_name : Kind → List ℕ
kind_name InvalidToken = codes "InvalidToken"
kind_name InvalidSignature = codes "InvalidSignature"
kind_name InvalidEcdsaKey = codes "InvalidEcdsaKey"
kind_name InvalidEddsaKey = codes "InvalidEddsaKey"
kind_name RsaFailedSigning = codes "RsaFailedSigning"
kind_name InvalidAlgorithmName = codes "InvalidAlgorithmName"
kind_name UnsupportedAlgorithm = codes "UnsupportedAlgorithm"
kind_name InvalidKeyFormat = codes "InvalidKeyFormat"
kind_name ExpiredSignature = codes "ExpiredSignature"
kind_name InvalidIssuer = codes "InvalidIssuer"
kind_name InvalidAudience = codes "InvalidAudience"
kind_name InvalidSubject = codes "InvalidSubject"
kind_name ImmatureSignature = codes "ImmatureSignature"
kind_name InvalidAlgorithm = codes "InvalidAlgorithm"
kind_name MissingAlgorithm = codes "MissingAlgorithm"
kind_name (MissingRequiredClaim claim) = codes "MissingRequiredClaim"
kind_name (InvalidClaimFormat claim) = codes "InvalidClaimFormat"
kind_name (InvalidRsaKey message) = codes "InvalidRsaKey"
kind_name (Signing message) = codes "Signing"
kind_name (Provider message) = codes "Provider"
kind_name Base64 = codes "Base64"
kind_name Json = codes "Json"
kind_name Utf8 = codes "Utf8"
kind_name OutOfMemory = codes "OutOfMemory"
kind_name ClockBeforeEpoch = codes "ClockBeforeEpoch"
kind_name InvalidCrit = codes "InvalidCrit"
kind_name NoKey = codes "NoKey"
