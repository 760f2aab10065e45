-- Certificates as strings in standard base64 (RFC 7515 section 4.1.6).
use Rattle.std.specs.Prelude.{ℕ, List, Option, Some, None}
use Rattle.std.specs.List.{AllZip}
use Rattle.jwt_base.specs.Base64Url.{IsStandardText}

-- the bytes of each string of `x5c`, in order; None if there is no list (RFC 7515 section 4.1.6)
abbrev pub AreCertificates : Option (List (List ℕ)) → Option (List (List ℕ)) → Type 0
AreCertificates None None = Unit {0}
AreCertificates None (Some certificates) = ⊥
AreCertificates (Some texts) None = ⊥
AreCertificates (Some texts) (Some certificates) = AllZip IsStandardText texts certificates
