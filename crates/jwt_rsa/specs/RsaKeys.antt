-- The keys, signatures and refusals of the provider of RSA.
use Rattle.std.specs.Prelude.{ℕ, ◌%◌, List, Bool, ◌&&◌, ◌==◌, nat_le, Option, Some, None, if◌then◌else◌}
use Rattle.modular.specs.Octets.{os2ip}
use Rattle.jwt_base.specs.Kind.{Kind}
use Rattle.jwt_base.specs.Kind as kind
use Rattle.jwt_base.specs.declared.algorithms.Algorithm.{Algorithm}
use Rattle.jwt_keys.specs.Key.{Key, Plain, Components}
use Rattle.jwt_rsa.specs.declared.scheme.Scheme.{Scheme}
use Rattle.jwt_rsa.specs.Rsa.{bit_count}
use Rattle.jwt_rsa.specs.RsaSchemes.{scheme_for, IsSignature}

-- 2048 bits (RFC 7518 section 3.3) to 16384
abbrev pub bits_fit : ℕ → Bool
bits_fit bits = nat_le 2048 bits && nat_le bits 16384

-- the modulus has as many bits as serve, and is odd (RFC 8017 section 3.1: a product of odd primes)
abbrev pub modulus_fits : List ℕ → Bool
modulus_fits n = bits_fit (bit_count n) && (os2ip n % 2 == 1)

-- an exponent of at most 64 bits, odd and at least 3 (RFC 8017 section 3.1)
abbrev pub exponent_fits : List ℕ → Bool
exponent_fits e = nat_le (bit_count e) 64 && (nat_le 3 (os2ip e) && (os2ip e % 2 == 1))

-- the kind with which components are refused
abbrev pub components_refusal : List ℕ → List ℕ → Option Kind
components_refusal n e = if modulus_fits n && exponent_fits e then None else Some kind.InvalidKeyFormat

-- the kind with which a key is refused: a key in DER is not read
abbrev pub key_refusal : Key → Option Kind
key_refusal (Plain f b) = Some kind.InvalidKeyFormat
key_refusal (Components n e) = components_refusal n e

-- the kind with which no verifier is made: for an algorithm without a scheme, or for the key
abbrev pub refusal : Option Scheme → Key → Option Kind
refusal None k = Some kind.UnsupportedAlgorithm
refusal (Some s) k = key_refusal k

-- the signature is one by the scheme and the components; without a scheme there is none
abbrev pub IsRsaOf : Option Scheme → List ℕ → List ℕ → List ℕ → List ℕ → Type 0
IsRsaOf None n e message signature = ⊥
IsRsaOf (Some s) n e message signature = IsSignature s (os2ip n) (os2ip e) (bit_count n) message signature

-- components accept the signatures of the algorithm's scheme, and another key accepts nothing
abbrev pub RsaAccepts : Algorithm → Key → List ℕ → List ℕ → Type 0
RsaAccepts a (Plain f b) message signature = ⊥
RsaAccepts a (Components n e) message signature = IsRsaOf (scheme_for a) n e message signature
