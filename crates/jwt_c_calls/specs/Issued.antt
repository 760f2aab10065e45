-- The result of the call for C that signs with a secret.
use Rattle.std.specs.Prelude.{◌≡◌, ◌≢◌, ◌⊎◌, ℕ, List, Option, None, Some, MatchOption}
use Rattle.serde_json.specs.Data.{Data}
use Rattle.jwt_base.specs.Algorithm.{family_of}
use Rattle.jwt_base.specs.Kind.{Kind}
use Rattle.jwt_base.specs.Kind as kind
use Rattle.jwt_base.specs.declared.algorithms.Algorithm.{Algorithm}
use Rattle.jwt_base.specs.declared.algorithms.AlgorithmFamily.TheVariants.{Hmac}
use Rattle.jwt_crypto.specs.HmacKeys.{HmacSigns}
use Rattle.jwt_header.specs.declared.header.Header.{Header}
use Rattle.jwt_keys.specs.Key.{Key, Plain, key_family}
use Rattle.jwt_keys.specs.KeyOfJwk.{IsKeyOf}
use Rattle.jwt_keys.specs.declared.jwk.Jwk.{Jwk}
use Rattle.jsonwebtoken.specs.Tests.{AgreesWith}
use Rattle.jwt_c_calls.specs.BySignature.{IsErrorOfEither, ReadsBoth}
use Rattle.jwt_c_calls.specs.Calls.{Answer, AnswersBy, Leaves}
use Rattle.jwt_c_calls.specs.Exact.{IsMessageOf, IsReadBack, IsTokenOf}
use Rattle.jwt_c_calls.specs.KeyLists.{KeyList, lone_key}
use Rattle.jwt_c_calls.specs.Keys.{StandsForNoKey}
use Rattle.jwt_c_calls.specs.Status.{no_keys, unfit_key, IsKept}

-- the key is a secret (RFC 7518 section 6.4), and for this algorithm, which is one of HMAC (RFC 7517 section 4.4); and this is
-- its code of the message (RFC 7518 section 3.2)
pub record IsSignedBy (jwk : Jwk) (algorithm : Algorithm) (message signature : List ℕ) : Type 0 where
  pub secret : List ℕ
  pub key : IsKeyOf jwk.algorithm (Plain Hmac secret)
  pub family : family_of algorithm ≡ Hmac
  pub agrees : AgreesWith algorithm jwk
  pub signed : HmacSigns algorithm (record { family = Hmac; bytes = secret }) message signature

-- why it is not signed: the key stands for no key, or for none that is a secret; or it is not for the algorithm
abbrev pub IsUnsignedBy : Jwk → Algorithm → Kind → Type 0
IsUnsignedBy jwk algorithm k = StandsForNoKey jwk k
    ⊎ ((key : Key) × IsKeyOf jwk.algorithm key
    × (((k ≡ kind.InvalidKeyFormat) × (key_family key ≢ Hmac))
    ⊎ ((k ≡ kind.InvalidAlgorithm) × ((family_of algorithm ≢ Hmac) ⊎ (¬ AgreesWith algorithm jwk)))))

-- the token of the header and the payload is signed with the key, and is read back as these bytes
abbrev pub IsTokenBy : Jwk → List ℕ → List ℕ → Header → Data → List ℕ → Type 0
IsTokenBy jwk header payload h claims token = (message : List ℕ) × (signature : List ℕ)
    × IsMessageOf header payload message × IsSignedBy jwk h.alg message signature × IsTokenOf message signature token
    × IsReadBack header payload message signature token h claims

-- the texts are read before the key, that of the header first
abbrev pub AnswersSign : Jwk → List ℕ → List ℕ → Answer → Type 0
AnswersSign jwk header payload = AnswersBy {E = Header × Data}
    (ReadsBoth header payload) (IsErrorOfEither header payload)
    (λ e. IsTokenBy jwk header payload e.0 e.1) (λ e. IsUnsignedBy jwk e.0.alg)

-- the result of `jwt_sign`: with the one key of a handle
abbrev pub LeavesToken : Option KeyList → (header payload : List ℕ) → (status len : ℕ) → (before after : List ℕ) → Type 0
LeavesToken None header payload status len before after = IsKept no_keys status len before after
LeavesToken (Some keys) header payload status len before after = MatchOption (lone_key keys)
    (IsKept unfit_key status len before after)
    (λ jwk. (a : Answer) × AnswersSign jwk header payload a × Leaves a status len before after)
