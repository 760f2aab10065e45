-- The keys on curves that are prepared, and the signatures by one of them.
use Rattle.std.specs.Prelude.{◌≡◌, ℕ, List}
use Rattle.jwt_base.specs.Algorithm.{family_of}
use Rattle.jwt_base.specs.declared.algorithms.Algorithm.{Algorithm}
use Rattle.jwt_base.specs.declared.algorithms.Algorithm.TheVariants as algorithm
use Rattle.jwt_keys.specs.Key.{Key, Plain}
use Rattle.ecdsa.specs.Curves.{IsEs256, IsEs384}
use Rattle.ed25519.specs.Ed25519.{IsSignature}
use Rattle.jwt_curves.specs.declared.prepared.PreparedCurve.{PreparedCurve}
use Rattle.jwt_curves.specs.declared.prepared.PreparedCurve.TheVariants.{P256, P384, Ed25519}

-- the algorithm that the key is for (RFC 7518 section 3.4, RFC 8037 section 3.1)
abbrev pub prepared_algorithm : PreparedCurve → Algorithm
prepared_algorithm (P256 k) = algorithm.ES256
prepared_algorithm (P384 k) = algorithm.ES384
prepared_algorithm (Ed25519 k) = algorithm.EdDSA

-- the bytes of the key
abbrev pub bytes_of : PreparedCurve → List ℕ
bytes_of (P256 k) = k.public.items
bytes_of (P384 k) = k.public.items
bytes_of (Ed25519 k) = k.public.items

-- the key that was prepared
abbrev pub prepared_key : PreparedCurve → Key
prepared_key k = Plain (family_of (prepared_algorithm k)) (bytes_of k)

-- it was prepared for this algorithm and key
abbrev pub IsPreparedFor : PreparedCurve → Algorithm → Key → Type 0
IsPreparedFor k a key = (a ≡ prepared_algorithm k) × (key ≡ prepared_key k)

-- the signature is one of the message by the key
abbrev pub IsSignatureBy : PreparedCurve → (message signature : List ℕ) → Type 0
IsSignatureBy (P256 k) message signature = IsEs256 k.public.items message signature
IsSignatureBy (P384 k) message signature = IsEs384 k.public.items message signature
IsSignatureBy (Ed25519 k) message signature = IsSignature k.public.items message signature
