-- The verifiers of the four families as one: each is judged as the verifier that it is.
use Rattle.jwt_base.specs.declared.algorithms.Algorithm.{Algorithm}
use Rattle.jwt_crypto.specs.declared.hmac.HmacVerifier.{HmacVerifier}
use Rattle.jwt_rsa.specs.declared.verifier.RsaVerifier.{RsaVerifier}
use Rattle.jwt_curves.specs.declared.elliptic.EcdsaVerifier.{EcdsaVerifier}
use Rattle.jwt_curves.specs.declared.eddsa.EdDsaVerifier.{EdDsaVerifier}
use Rattle.jwt_standard.specs.declared.verifier.StandardVerifier.{StandardVerifier}
use Rattle.jwt_standard.specs.declared.verifier.StandardVerifier.TheVariants.{Hmac, Rsa, Ec, Ed}

-- the algorithm, of each family's verifier by this one of four
abbrev pub algorithm_by : (HmacVerifier → Algorithm) → (RsaVerifier → Algorithm) → (EcdsaVerifier → Algorithm)
    → (EdDsaVerifier → Algorithm) → StandardVerifier → Algorithm
algorithm_by hmac rsa ec ed (Hmac v) = hmac v
algorithm_by hmac rsa ec ed (Rsa v) = rsa v
algorithm_by hmac rsa ec ed (Ec v) = ec v
algorithm_by hmac rsa ec ed (Ed v) = ed v

-- a statement, of each family's verifier by this one of four
abbrev pub by_family : (HmacVerifier → Type 0) → (RsaVerifier → Type 0) → (EcdsaVerifier → Type 0)
    → (EdDsaVerifier → Type 0) → StandardVerifier → Type 0
by_family hmac rsa ec ed (Hmac v) = hmac v
by_family hmac rsa ec ed (Rsa v) = rsa v
by_family hmac rsa ec ed (Ec v) = ec v
by_family hmac rsa ec ed (Ed v) = ed v
