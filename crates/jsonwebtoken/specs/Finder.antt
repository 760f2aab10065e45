-- The key of a token by the source of keys that a finder stands for, one key or a set, and the tests that a call makes
-- by that source.
use Rattle.std.specs.Prelude.{◌≡◌, ◌∷◌, ◌++◌, ℕ, List, [], Option, None, Result}
use Rattle.jwt_base.specs.declared.algorithms.Algorithm.{Algorithm}
use Rattle.jwt_header.specs.declared.header.Header.{Header}
use Rattle.jwt_keys.specs.Key.{Key}
use Rattle.jsonwebtoken.specs.Own.{IsNamedBy, named_own}
use Rattle.jsonwebtoken.specs.Steps.{Step}
use Rattle.jsonwebtoken.specs.Tests.{Call, CritIsUnderstood, Given, InSet, KeySource, Test, algorithm_tests}
use Rattle.jsonwebtoken.specs.Tests.{header_call, header_order, key_of, key_tests, verifying_tests}
use Rattle.jsonwebtoken.specs.declared.refusal.Refusal.{Refusal}

-- the tests of the key: none of one that is given
abbrev pub finding_tests : KeySource → List Test
finding_tests (Given k) = []
finding_tests (InSet ks) = key_tests

-- the tests that follow those of `crit`
abbrev pub keyed_tests : KeySource → List Test
keyed_tests keys = finding_tests keys ++ (algorithm_tests ++ verifying_tests)

-- the tests that follow those of the header
abbrev pub tests_after_header : KeySource → List Test
tests_after_header keys = CritIsUnderstood ∷ keyed_tests keys

-- all tests: `decode_order` or `set_order`
abbrev pub order_by : KeySource → List Test
order_by keys = header_order ++ tests_after_header keys

-- a call that looks for a key
abbrev pub looking_by : KeySource → Call (Unit {0})
looking_by keys = record (header_call []) { keys = keys }

-- the key is that of the token with this header; a refusal is by the first test of it that fails
abbrev pub FindsKey : {F : Type 0} → KeySource → (F → Key) → Header → Result F Refusal → Type 0
FindsKey keys key header r =
    Step (looking_by keys) (finding_tests keys) (λ t. record t { header = header })
    (λ t f. key_of keys t.jwk_key ≡ key f) r

-- the algorithm that the key which a header names is for; none of a key that is given
abbrev pub own_by : KeySource → Header → Option Algorithm
own_by (Given k) h = None
own_by (InSet ks) h = named_own ks h

-- likewise, of the key that a token's header names
abbrev pub IsOwnOf : KeySource → List ℕ → Option Algorithm → Type 0
IsOwnOf (Given k) token own = own ≡ None
IsOwnOf (InSet ks) token own = IsNamedBy ks token own
