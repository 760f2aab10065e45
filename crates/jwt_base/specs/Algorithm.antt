-- The algorithms, their names and their families.
use Rattle.std.specs.Prelude.{◌≡◌, ℕ, List, [], ◌∷◌, Option, Some, None, Result, MatchResult, option_and_then}
use Rattle.std.specs.Prelude.{option_map, unwrap_or, codes}
use Rattle.serde_json.specs.Data.{Data}
use Rattle.serde_json.specs.Find.{as_str}
use Rattle.jwt_base.specs.Kind as kind
use Rattle.jwt_base.specs.KindOf.{kind_of}
use Rattle.jwt_base.specs.Spelling.{spelled}
use Rattle.jwt_base.specs.declared.errors.Error.{Error}
use Rattle.jwt_base.specs.declared.algorithms.Algorithm.{Algorithm}
use Rattle.jwt_base.specs.declared.algorithms.Algorithm.TheVariants.{HS256, HS384, HS512, RS256, RS384, RS512, PS256}
use Rattle.jwt_base.specs.declared.algorithms.Algorithm.TheVariants.{PS384, PS512, ES256, ES384, EdDSA}
use Rattle.jwt_base.specs.declared.algorithms.AlgorithmFamily.{AlgorithmFamily}
use Rattle.jwt_base.specs.declared.algorithms.AlgorithmFamily.TheVariants.{Hmac, Rsa, Ec, Ed}
use Rattle.jwt_base.specs.declared.algorithms.KeyAlgorithm.{KeyAlgorithm}
use Rattle.jwt_base.specs.declared.algorithms.KeyAlgorithm.TheVariants as key

-- the names of the algorithms (RFC 7518 section 3.1, RFC 8037 section 3.1)
abbrev pub name_of : Algorithm → List ℕ
name_of HS256 = codes "HS256"
name_of HS384 = codes "HS384"
name_of HS512 = codes "HS512"
name_of RS256 = codes "RS256"
name_of RS384 = codes "RS384"
name_of RS512 = codes "RS512"
name_of PS256 = codes "PS256"
name_of PS384 = codes "PS384"
name_of PS512 = codes "PS512"
name_of ES256 = codes "ES256"
name_of ES384 = codes "ES384"
name_of EdDSA = codes "EdDSA"

-- the family of the algorithm (RFC 7518 section 3.1, RFC 8037 section 3.1)
abbrev pub family_of : Algorithm → AlgorithmFamily
family_of HS256 = Hmac
family_of HS384 = Hmac
family_of HS512 = Hmac
family_of RS256 = Rsa
family_of RS384 = Rsa
family_of RS512 = Rsa
family_of PS256 = Rsa
family_of PS384 = Rsa
family_of PS512 = Rsa
family_of ES256 = Ec
family_of ES384 = Ec
family_of EdDSA = Ed

abbrev pub algorithms_of : AlgorithmFamily → List Algorithm
algorithms_of Hmac = HS256 ∷ HS384 ∷ HS512 ∷ []
algorithms_of Rsa = RS256 ∷ RS384 ∷ RS512 ∷ PS256 ∷ PS384 ∷ PS512 ∷ []
algorithms_of Ec = ES256 ∷ ES384 ∷ []
algorithms_of Ed = EdDSA ∷ []

-- the twelve: those of RFC 7518 section 3.1 but ES512 and `none`, and that of RFC 8037 section 3.1
abbrev pub all_algorithms : List Algorithm
all_algorithms = HS256 ∷ HS384 ∷ HS512 ∷ RS256 ∷ RS384 ∷ RS512 ∷ PS256 ∷ PS384 ∷ PS512
    ∷ ES256 ∷ ES384 ∷ EdDSA ∷ []

-- the algorithm of exactly that name (RFC 7518 section 3.1, RFC 8037 section 3.1)
abbrev pub algorithm_named : List ℕ → Option Algorithm
algorithm_named = spelled name_of all_algorithms

abbrev pub family_name_of : AlgorithmFamily → List ℕ
family_name_of Hmac = codes "Hmac"
family_name_of Rsa = codes "Rsa"
family_name_of Ec = codes "Ec"
family_name_of Ed = codes "Ed"

-- the family of that name
abbrev pub family_named : List ℕ → Option AlgorithmFamily
family_named = spelled family_name_of (Hmac ∷ Rsa ∷ Ec ∷ Ed ∷ [])

-- the algorithm that a JSON string names (RFC 7515 section 4.1.1)
abbrev pub algorithm_from : Data → Option Algorithm
algorithm_from d = option_and_then algorithm_named (as_str d)

-- the family that a JSON string names
abbrev pub family_from : Data → Option AlgorithmFamily
family_from d = option_and_then family_named (as_str d)

-- the result of parsing a string: the value of that name, else `InvalidAlgorithmName`
abbrev pub ReadsName : {A : Type 0} → (List ℕ → Option A) → List ℕ → Result A Error → Type 0
ReadsName named text r = MatchResult r (λ a. named text ≡ Some a)
    (λ e. (kind_of e ≡ kind.InvalidAlgorithmName) × (named text ≡ None))

-- the algorithm of a key that is this algorithm (RFC 7517 section 4.4)
abbrev pub key_algorithm_of : Algorithm → KeyAlgorithm
key_algorithm_of HS256 = key.HS256
key_algorithm_of HS384 = key.HS384
key_algorithm_of HS512 = key.HS512
key_algorithm_of RS256 = key.RS256
key_algorithm_of RS384 = key.RS384
key_algorithm_of RS512 = key.RS512
key_algorithm_of PS256 = key.PS256
key_algorithm_of PS384 = key.PS384
key_algorithm_of PS512 = key.PS512
key_algorithm_of ES256 = key.ES256
key_algorithm_of ES384 = key.ES384
key_algorithm_of EdDSA = key.EdDSA

-- the algorithm that signs by such a key; four algorithms of keys sign nothing (RFC 7517 section
-- 4.4)
abbrev pub algorithm_of : KeyAlgorithm → Option Algorithm
algorithm_of key.HS256 = Some HS256
algorithm_of key.HS384 = Some HS384
algorithm_of key.HS512 = Some HS512
algorithm_of key.RS256 = Some RS256
algorithm_of key.RS384 = Some RS384
algorithm_of key.RS512 = Some RS512
algorithm_of key.PS256 = Some PS256
algorithm_of key.PS384 = Some PS384
algorithm_of key.PS512 = Some PS512
algorithm_of key.ES256 = Some ES256
algorithm_of key.ES384 = Some ES384
algorithm_of key.EdDSA = Some EdDSA
algorithm_of key.RSA1_5 = None
algorithm_of key.RSA_OAEP = None
algorithm_of key.RSA_OAEP_256 = None
algorithm_of key.UNKNOWN_ALGORITHM = None

-- the algorithm that signs by such a key, else `UnsupportedAlgorithm` (RFC 7517 section 4.4)
abbrev pub ConvertsKeyAlgorithm : KeyAlgorithm → Result Algorithm Error → Type 0
ConvertsKeyAlgorithm k r = MatchResult r (λ a. algorithm_of k ≡ Some a)
    (λ e. (kind_of e ≡ kind.UnsupportedAlgorithm) × (algorithm_of k ≡ None))

-- the name in JSON (RFC 7518 sections 3.1 and 4.1, RFC 8037 section 3.1)
abbrev pub key_name_of : KeyAlgorithm → List ℕ
key_name_of key.HS256 = codes "HS256"
key_name_of key.HS384 = codes "HS384"
key_name_of key.HS512 = codes "HS512"
key_name_of key.RS256 = codes "RS256"
key_name_of key.RS384 = codes "RS384"
key_name_of key.RS512 = codes "RS512"
key_name_of key.PS256 = codes "PS256"
key_name_of key.PS384 = codes "PS384"
key_name_of key.PS512 = codes "PS512"
key_name_of key.ES256 = codes "ES256"
key_name_of key.ES384 = codes "ES384"
key_name_of key.EdDSA = codes "EdDSA"
key_name_of key.RSA1_5 = codes "RSA1_5"
key_name_of key.RSA_OAEP = codes "RSA-OAEP"
key_name_of key.RSA_OAEP_256 = codes "RSA-OAEP-256"
key_name_of key.UNKNOWN_ALGORITHM = codes "UNKNOWN_ALGORITHM"

-- the text that is displayed
abbrev pub key_text_of : KeyAlgorithm → List ℕ
key_text_of key.RSA_OAEP = codes "RSA_OAEP"
key_text_of key.RSA_OAEP_256 = codes "RSA_OAEP_256"
key_text_of other = key_name_of other

-- the known ones; every other name is unknown (RFC 7518 sections 3.1 and 4.1, RFC 8037 section 3.1)
abbrev pub known_key_algorithms : List KeyAlgorithm
known_key_algorithms = key.HS256 ∷ key.HS384 ∷ key.HS512 ∷ key.RS256 ∷ key.RS384 ∷ key.RS512
    ∷ key.PS256 ∷ key.PS384 ∷ key.PS512 ∷ key.ES256 ∷ key.ES384 ∷ key.EdDSA
    ∷ key.RSA1_5 ∷ key.RSA_OAEP ∷ key.RSA_OAEP_256 ∷ []

-- the algorithm of a key of that name (RFC 7517 section 4.4)
abbrev pub key_algorithm_named : List ℕ → Option KeyAlgorithm
key_algorithm_named = spelled key_name_of known_key_algorithms

-- the algorithm of a key that a JSON string names; any other string is unknown (RFC 7517 section
-- 4.4)
abbrev pub key_algorithm_from : Data → Option KeyAlgorithm
key_algorithm_from d =
    option_map (λ s. unwrap_or (key_algorithm_named s) key.UNKNOWN_ALGORITHM) (as_str d)
