-- What is prepared of a key.
use Rattle.std.specs.Prelude.{◌≡◌, ◌⊎◌, ⊤, List, All}
use Rattle.std.specs.List.{Any}
use Rattle.jwt_base.specs.Algorithm.{family_of}
use Rattle.jwt_base.specs.declared.algorithms.Algorithm.{Algorithm}
use Rattle.jwt_base.specs.declared.algorithms.AlgorithmFamily.TheVariants as family
use Rattle.jwt_crypto.specs.HmacPrepared as hmac
use Rattle.jwt_curves.specs.CurvePrepared as curve
use Rattle.jwt_keys.specs.Key.{Key, Plain, Components, key_family}
use Rattle.jwt_keys.specs.declared.jwk.Jwk.{Jwk}
use Rattle.jwt_rsa.specs.RsaPrepared as rsa
use Rattle.jsonwebtoken.specs.Tests.{AgreesWith}
use Rattle.jwt_verifier.specs.declared.entry.Prepared.{Prepared}
use Rattle.jwt_verifier.specs.declared.entry.Prepared.TheVariants.{Secret, Rsa, Curve, Nothing}

-- all that is prepared is of this key
abbrev pub IsPreparedOf : Key → Prepared → Type 0
IsPreparedOf key (Secret secrets) = All (λ s. key ≡ Plain family.Hmac s.1) (hmac.prepared_keys secrets)
IsPreparedOf key (Rsa keys) = All (λ k. key ≡ Components k.0 k.1) (rsa.prepared_keys keys)
IsPreparedOf key (Curve k) = curve.prepared_key k ≡ key
IsPreparedOf key Nothing = ⊤

-- a key is prepared only if one of the algorithms is of its family
abbrev pub IsNeeded : List Algorithm → Key → Prepared → Type 0
IsNeeded algorithms key prepared = (prepared ≡ Nothing) ⊎ Any (λ a. family_of a ≡ key_family key) algorithms

-- and if the JSON Web Key that it stands for is for this algorithm, or for all (RFC 7517 section 4.4)
abbrev pub IsNeededOf : Jwk → List Algorithm → Key → Prepared → Type 0
IsNeededOf jwk algorithms key prepared = (prepared ≡ Nothing)
    ⊎ Any (λ a. AgreesWith a jwk × (family_of a ≡ key_family key)) algorithms
