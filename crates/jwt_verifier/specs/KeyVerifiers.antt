-- The verifiers by keys that are prepared and by other keys as one: each is judged as the verifier that it is.
use Rattle.jwt_base.specs.declared.algorithms.Algorithm.{Algorithm}
use Rattle.jwt_crypto.specs.declared.prepared.PreparedHmacVerifier.{PreparedHmacVerifier}
use Rattle.jwt_curves.specs.declared.prepared.PreparedCurveVerifier.{PreparedCurveVerifier}
use Rattle.jwt_rsa.specs.declared.prepared.PreparedRsaVerifier.{PreparedRsaVerifier}
use Rattle.jwt_standard.specs.declared.verifier.StandardVerifier.{StandardVerifier}
use Rattle.jwt_verifier.specs.declared.key_verifier.KeyVerifier.{KeyVerifier}
use Rattle.jwt_verifier.specs.declared.key_verifier.KeyVerifier.TheVariants.{Secret, Rsa, Curve, Other}

-- the algorithm, of each verifier by this one of four
abbrev pub algorithm_by : (PreparedHmacVerifier → Algorithm) → (PreparedRsaVerifier → Algorithm)
    → (PreparedCurveVerifier → Algorithm) → (StandardVerifier → Algorithm) → KeyVerifier → Algorithm
algorithm_by secret rsa curve other (Secret v) = secret v
algorithm_by secret rsa curve other (Rsa v) = rsa v
algorithm_by secret rsa curve other (Curve v) = curve v
algorithm_by secret rsa curve other (Other v) = other v

-- a statement, of each verifier by this one of four
abbrev pub by_verifier : (PreparedHmacVerifier → Type 0) → (PreparedRsaVerifier → Type 0)
    → (PreparedCurveVerifier → Type 0) → (StandardVerifier → Type 0) → KeyVerifier → Type 0
by_verifier secret rsa curve other (Secret v) = secret v
by_verifier secret rsa curve other (Rsa v) = rsa v
by_verifier secret rsa curve other (Curve v) = curve v
by_verifier secret rsa curve other (Other v) = other v
