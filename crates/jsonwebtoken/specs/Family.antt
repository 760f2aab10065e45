-- The algorithms of several families: the key that the header names decides which of them count, and the token's `alg`
-- does not.
use Rattle.std.specs.Prelude.{◌≡◌, ⊤, ℕ, List, [], ◌∷◌, Bool, Option, Some, None, Result, All, Contains, IfOk, MatchResult}
use Rattle.std.specs.Prelude.{option_and_then}
use Rattle.std.specs.List.{filter}
use denote.Enum.Bare.{sameb}
use Rattle.jwt_base.specs.Algorithm.{family_of}
use Rattle.jwt_base.specs.KindOf.{IsMemory}
use Rattle.jwt_base.specs.contracts.algorithms.AlgorithmFamily.{the_type as families}
use Rattle.jwt_base.specs.declared.algorithms.Algorithm.{Algorithm}
use Rattle.jwt_base.specs.declared.algorithms.AlgorithmFamily.{AlgorithmFamily}
use Rattle.jwt_base.specs.declared.algorithms.AlgorithmFamily.TheVariants as family
use Rattle.jwt_header.specs.declared.header.Header.{Header}
use Rattle.jwt_keys.specs.Key.{key_family}
use Rattle.jwt_keys.specs.declared.jwk.Jwk.{Jwk}
use Rattle.jwt_params.specs.declared.parameters.AlgorithmParameters.{AlgorithmParameters}
use Rattle.jwt_params.specs.declared.parameters.AlgorithmParameters.TheVariants.{EllipticCurve, RSA, OctetKey}
use Rattle.jwt_params.specs.declared.parameters.AlgorithmParameters.TheVariants.{OctetKeyPair, Other}
use Rattle.jsonwebtoken.specs.Order.{Passes}
use Rattle.jsonwebtoken.specs.Own.{HasHeaderOf, with_algorithms}
use Rattle.jsonwebtoken.specs.Tests.{AgreesWith, Call, Contents, Given, InSet, KeySource, Test, key_of, named_key, token_tests}
use Rattle.jsonwebtoken.specs.declared.refusal.Refusal.{Refusal}

-- ---- the family of a key

-- by the type of a JSON Web Key (RFC 7518 section 6.1, RFC 8037 section 2)
abbrev pub family_of_type : AlgorithmParameters → Option AlgorithmFamily
family_of_type (EllipticCurve p) = Some family.Ec
family_of_type (RSA p) = Some family.Rsa
family_of_type (OctetKey p) = Some family.Hmac
family_of_type (OctetKeyPair p) = Some family.Ed
family_of_type (Other p) = None

-- of the key that is given, or of the one that the header names
abbrev pub family_by : KeySource → Header → Option AlgorithmFamily
family_by (Given k) h = Some (key_family k)
family_by (InSet ks) h = option_and_then (λ j. family_of_type j.algorithm) (named_key ks h)

-- ---- the algorithms of a family

-- all of one family
abbrev pub AreOfOneFamily : List Algorithm → Type 0
AreOfOneFamily algorithms = (f : AlgorithmFamily) × All (λ a. family_of a ≡ f) algorithms

abbrev pub is_of : AlgorithmFamily → Algorithm → Bool
is_of f a = sameb families (family_of a) f

-- the first list, or the second if the first is empty
abbrev pub or_else : List Algorithm → List Algorithm → List Algorithm
or_else [] algorithms = algorithms
or_else (a ∷ left) algorithms = a ∷ left

-- the listed algorithms of this family; all, if none is of it, or if there is no family
abbrev pub left_for : Option AlgorithmFamily → List Algorithm → List Algorithm
left_for None algorithms = algorithms
left_for (Some f) algorithms = or_else (filter (is_of f) algorithms) algorithms

-- ---- a call by the family of the token's key

-- the call that accepts the algorithms of this family
abbrev pub with_family : {T : Type 0} → Call T → Option AlgorithmFamily → Call T
with_family call f = record call { options = with_algorithms call.options (left_for f call.options.algorithms) }

-- This is so of the call with the algorithms of the family of the token's key. A token whose header is not read names
-- no key, and is refused whatever the family.
abbrev pub ByFamily : {T : Type 0} → Call T → List ℕ → (Call T → Type 0) → Type 0
ByFamily call token Is = (f : Option AlgorithmFamily)
    → ((t : Contents) → HasHeaderOf token t → f ≡ family_by call.keys t.header) → Is (with_family call f)

module _ {T : Type 0} (call : Call T) (order : List Test) where
  -- the contents pass with the algorithms of the family of a listed one
  abbrev pub PassesByFamily : Contents → Type 0
  PassesByFamily t = (a : Algorithm) × Contains call.options.algorithms a
      × Passes (token_tests (with_family call (Some (family_of a)))) order t

  -- accepted are just the tokens of such contents, and the result shows these, unless memory ran out
  pub record AcceptsByFamily {R : Type 0} (Shows : Contents → R → Type 0) (r : Result R Refusal) : Type 0 where
    pub accepted : IfOk r (λ y. (t : Contents) × PassesByFamily t × Shows t y)
    pub exact : (t : Contents) → PassesByFamily t → MatchResult r (Shows t) (λ refusal. IsMemory refusal.error)

-- the algorithm agrees with the `alg` of a key of a set (RFC 7517 section 4.4)
abbrev pub Agrees : KeySource → Algorithm → Jwk → Type 0
Agrees (Given k) a jwk = ⊤
Agrees (InSet ks) a jwk = AgreesWith a jwk

-- the algorithm of the contents is listed, of the family of the key, and one that the key is for
pub record FitsKey {T : Type 0} (call : Call T) (t : Contents) : Type 0 where
  pub listed : Contains call.options.algorithms t.header.alg
  pub family : key_family (key_of call.keys t.jwk_key) ≡ family_of t.header.alg
  pub agrees : Agrees call.keys t.header.alg t.jwk
  pub made : call.refusal t.header.alg (key_of call.keys t.jwk_key) ≡ None

-- contents that pass the one call have an algorithm that fits their key by the other
abbrev pub KeepsToKey : {T : Type 0} → Call T → Call T → List Test → Type 0
KeepsToKey listed call order = (t : Contents) → Passes (token_tests call) order t → FitsKey listed t
