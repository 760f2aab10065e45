-- The signature schemes of RSA by which tokens are signed (RFC 7518 section 3.1).
use Rattle.std.specs.Prelude.{ℕ, List, Option, Some, None}
use Rattle.jwt_base.specs.declared.algorithms.Algorithm.{Algorithm}
use Rattle.jwt_base.specs.declared.algorithms.Algorithm.TheVariants as algorithm
use Rattle.jwt_crypto.specs.declared.hmac.Hash.TheVariants.{Sha256, Sha384, Sha512}
use Rattle.jwt_rsa.specs.declared.scheme.Scheme.{Scheme}
use Rattle.jwt_rsa.specs.declared.scheme.Scheme.TheVariants.{Pkcs1, Pss}
use Rattle.jwt_rsa.specs.Pkcs1.{IsPkcs1Signature}
use Rattle.jwt_rsa.specs.Pss.{IsPssSignature}

-- the scheme and hash of an algorithm: RSASSA-PKCS1-v1_5 (RFC 7518 section 3.3), RSASSA-PSS
-- (section 3.5)
abbrev pub scheme_for : Algorithm → Option Scheme
scheme_for algorithm.RS256 = Some (Pkcs1 Sha256)
scheme_for algorithm.RS384 = Some (Pkcs1 Sha384)
scheme_for algorithm.RS512 = Some (Pkcs1 Sha512)
scheme_for algorithm.PS256 = Some (Pss Sha256)
scheme_for algorithm.PS384 = Some (Pss Sha384)
scheme_for algorithm.PS512 = Some (Pss Sha512)
scheme_for _ = None

-- the algorithm of a scheme
abbrev pub algorithm_for : Scheme → Algorithm
algorithm_for (Pkcs1 Sha256) = algorithm.RS256
algorithm_for (Pkcs1 Sha384) = algorithm.RS384
algorithm_for (Pkcs1 Sha512) = algorithm.RS512
algorithm_for (Pss Sha256) = algorithm.PS256
algorithm_for (Pss Sha384) = algorithm.PS384
algorithm_for (Pss Sha512) = algorithm.PS512

-- the signature is one of the message by the scheme, for the modulus n of this many bits and the
-- exponent e
abbrev pub IsSignature : Scheme → ℕ → ℕ → ℕ → List ℕ → List ℕ → Type 0
IsSignature (Pkcs1 h) n e bits m s = IsPkcs1Signature h n e bits m s
IsSignature (Pss h) n e bits m s = IsPssSignature h n e bits m s
