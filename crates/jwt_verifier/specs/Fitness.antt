-- The keys and the algorithms that a verifier is made of: whether anyone can sign, and whether a token can be accepted.
use Rattle.std.specs.Prelude.{◌≡◌, ◌⊎◌, ℕ, List, Bool, false, None, IsTrue, IsSome}
use Rattle.std.specs.List.{Any}
use Rattle.jwt_base.specs.declared.algorithms.Algorithm.{Algorithm}
use Rattle.jwt_keys.specs.Key.{Key}
use Rattle.jwt_keys.specs.KeyOfJwk.{IsKeyOf}
use Rattle.jwt_keys.specs.declared.jwk.Jwk.{Jwk}
use Rattle.jwt_secrets.specs.Blank.{IsBlankKey, HasBlankKey}
use Rattle.jsonwebtoken.specs.Tests.{AgreesWith}
use Rattle.jwt_standard.specs.StandardKeys.{verifier_refusal}
use Rattle.jwt_verifier.specs.declared.fitness.KeyProblem.{KeyProblem}
use Rattle.jwt_verifier.specs.declared.fitness.KeyProblem.TheVariants.{AllZero, NoUsableKey, Memory}
use Rattle.jwt_verifier.specs.declared.keys.Keys.{Keys}
use Rattle.jwt_verifier.specs.declared.keys.Keys.TheVariants.{One, Set}
use Rattle.jwt_verifier.specs.declared.limits.Limits.{Limits}

-- 1 MiB
abbrev pub token_limit : ℕ
token_limit = 1048576

-- 64 MiB
abbrev pub prepared_limit : ℕ
prepared_limit = 67108864

-- the limits of a verifier whose maker sets none
abbrev pub usual_limits : Limits
usual_limits = record { max_len = token_limit; allows_blank = false; max_prepared = prepared_limit }

-- anyone can sign with the key, or with one of the set (RFC 2104 section 2)
abbrev pub HasBlank : Keys → Type 0
HasBlank (One key) = IsBlankKey key
HasBlank (Set set) = HasBlankKey set.keys.items

-- all-zero secrets are allowed, or there is none
abbrev pub AreSafe : Bool → Keys → Type 0
AreSafe allows_blank keys = IsTrue allows_blank ⊎ (¬ HasBlank keys)

-- the key verifies with one of the algorithms: it is of the algorithm's family, and it is none that
-- the algorithm refuses, as a modulus that is too short or a point that is not on the curve
-- (RFC 7518 section 3.1)
abbrev pub Serves : List Algorithm → Key → Type 0
Serves algorithms key = Any (λ a. verifier_refusal a key ≡ None) algorithms

-- likewise with one that agrees with the `alg` of its JSON Web Key (RFC 7517 section 4.4)
abbrev pub ServesAs : List Algorithm → Jwk → Key → Type 0
ServesAs algorithms jwk key = Any (λ a. AgreesWith a jwk × (verifier_refusal a key ≡ None)) algorithms

-- a token can name the JSON Web Key by its `kid` (RFC 7517 section 4.5), and it stands for such a key (RFC 7518 section 6)
abbrev pub JwkServes : List Algorithm → Jwk → Type 0
JwkServes algorithms jwk =
    IsSome jwk.common.key_id × ((key : Key) × IsKeyOf jwk.algorithm key × ServesAs algorithms jwk key)

-- the key serves, or one of the set does (RFC 7517 section 5)
abbrev pub CanServe : List Algorithm → Keys → Type 0
CanServe algorithms (One key) = Serves algorithms key
CanServe algorithms (Set set) = Any (JwkServes algorithms) set.keys.items

-- a verifier can be made of the keys, for the algorithms
abbrev pub AreFit : Bool → List Algorithm → Keys → Type 0
AreFit allows_blank algorithms keys =
    AreSafe allows_blank keys × CanServe algorithms keys

-- Why no verifier is made of the keys: memory ran out; or a secret is all zeros, which is not allowed; or else no key
-- fits an algorithm.
abbrev pub IsKeyProblem : Bool → List Algorithm → Keys → KeyProblem → Type 0
IsKeyProblem allows_blank algorithms keys why = (why ≡ Memory)
    ⊎ (((why ≡ AllZero) × (¬ IsTrue allows_blank) × HasBlank keys)
    ⊎ ((why ≡ NoUsableKey) × AreSafe allows_blank keys × (¬ CanServe algorithms keys)))
