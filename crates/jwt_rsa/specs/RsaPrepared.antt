-- The keys that a provider keeps prepared, and the verifiers by one of them.
use Rattle.std.specs.Prelude.{ℕ, List, Contains, map, ⊤}
use Rattle.jwt_keys.specs.Key.{Key, Plain, Components}
use Rattle.jwt_rsa.specs.RsaSchemes.{IsSignature}
use Rattle.jwt_rsa.specs.declared.key.PublicKey.{PublicKey}
use Rattle.jwt_rsa.specs.declared.scheme.Scheme.{Scheme}
use Rattle.jwt_rsa.specs.declared.kept.PreparedKey.{PreparedKey}
use Rattle.jwt_rsa.specs.declared.prepared.PreparedRsa.{PreparedRsa}
use Rattle.jwt_rsa.specs.declared.prepared.KeyInUse.{KeyInUse}
use Rattle.jwt_rsa.specs.declared.prepared.KeyInUse.TheVariants.{Fresh, Kept}
use Rattle.jwt_rsa.specs.declared.prepared.PreparedRsaVerifier.{PreparedRsaVerifier}

-- a modulus and an exponent, each as the octets that were given
abbrev pub prepared_key : PreparedKey → List ℕ × List ℕ
prepared_key k = (k.n.items, k.e.items)

-- in the order in which they were prepared
abbrev pub prepared_keys : PreparedRsa → List (List ℕ × List ℕ)
prepared_keys p = map prepared_key p.keys.items

-- the key of these octets is prepared
abbrev pub IsPrepared : PreparedRsa → List ℕ → List ℕ → Type 0
IsPrepared p n e = Contains (prepared_keys p) (n, e)

-- and so for a verification key
abbrev pub IsPreparedKey : PreparedRsa → Key → Type 0
IsPreparedKey p (Plain f b) = ⊥
IsPreparedKey p (Components n e) = IsPrepared p n e

-- the numbers of a verifier's key: the modulus, the exponent and the bits of the modulus
abbrev pub key_of : KeyInUse → PublicKey
key_of (Fresh k) = k
key_of (Kept k) = k.now

-- the signature is one of the message by the scheme and the verifier's key
abbrev pub IsSignatureBy : KeyInUse → Scheme → List ℕ → List ℕ → Type 0
IsSignatureBy k scheme m s = IsSignature scheme (key_of k).modulus (key_of k).exponent (key_of k).bits m s

-- by a key that was kept, and not by one made anew
abbrev pub IsKept : KeyInUse → Type 0
IsKept (Fresh k) = ⊥
IsKept (Kept k) = ⊤

abbrev pub IsKeptVerifier : PreparedRsaVerifier → Type 0
IsKeptVerifier v = IsKept v.keyed
