-- The result of the call for C that makes a verifier.
use Rattle.std.specs.Prelude.{◌≡◌, ◌⊎◌, ◌↔◌, ◌≤◌, ◌==◌, ℕ, List, true, Contains}
use Rattle.std.specs.Prelude.{if◌then◌else◌, MatchOption}
use Rattle.std.specs.List.{Any}
use Rattle.jwt_base.specs.JsonText.{ReadsText}
use Rattle.jwt_base.specs.Kind as kind
use Rattle.jwt_base.specs.declared.algorithms.Algorithm.{Algorithm}
use Rattle.jwt_keys.specs.Key.{Key}
use Rattle.jwt_keys.specs.KeyOfJwk.{IsKeyOf}
use Rattle.jwt_keys.specs.declared.jwk.Jwk.{Jwk}
use Rattle.jwt_key_items.specs.KeyItems.{kept_of}
use Rattle.jwt_validation.specs.Options.{Options}
use Rattle.jwt_validation.specs.OptionsOf.{options_of}
use Rattle.jsonwebtoken.specs.Own.{with_algorithms}
use Rattle.jsonwebtoken.specs.Tests.{AgreesWith}
use Rattle.jwt_verifier.specs.Fitness.{token_limit, prepared_limit, JwkServes, ServesAs}
use Rattle.jwt_verifier.specs.declared.fitness.KeyProblem.{KeyProblem}
use Rattle.jwt_verifier.specs.declared.fitness.KeyProblem.TheVariants.{AllZero, NoUsableKey, Memory}
use Rattle.jwt_verifier.specs.declared.keys.Keys.{Keys}
use Rattle.jwt_verifier.specs.declared.keys.Keys.TheVariants.{One, Set}
use Rattle.jwt_verifier.specs.declared.limits.Limits.{Limits}
use Rattle.jwt_verifier.specs.declared.verifier.Verifier.{Verifier}
use Rattle.jwt_c_calls.specs.Acceptors.{Accepting}
use Rattle.jwt_c_calls.specs.Asked.{AskedOptions, ReadsAsked}
use Rattle.jwt_c_calls.specs.Calls.{HasNoReading}
use Rattle.jwt_c_calls.specs.KeyLists.{KeyList, lone_key}
use Rattle.jwt_c_calls.specs.Status.{number, all_zero_secret, input_status, no_usable_key}
use Rattle.jwt_c_calls.specs.declared.inputs.Input.TheVariants as input

-- ---- making a verifier

-- the number that is given, or the usual one if 0 is
abbrev pub unless_zero : ℕ → ℕ → ℕ
unless_zero given usual = if given == 0 then usual else given

-- The limits for the arguments of a call: 0 selects 1 MiB for the length of a token, and 64 MiB for the bytes of prepared
-- keys. Nothing is left to refuse of secrets: a handle keeps none with which anyone can sign.
abbrev pub limits_of : ℕ → ℕ → Limits
limits_of max_len max_prepared = record {
  max_len = unless_zero max_len token_limit;
  allows_blank = true;
  max_prepared = unless_zero max_prepared prepared_limit;
}

-- the keys are the set of these
abbrev pub HasSet : List Jwk → Keys → Type 0
HasSet kept (One key) = ⊥
HasSet kept (Set set) = set.keys.items ≡ kept

-- the keys are the one that this JSON Web Key stands for (RFC 7518 section 6)
abbrev pub IsOfKey : Jwk → Keys → Type 0
IsOfKey jwk (One key) = IsKeyOf jwk.algorithm key
IsOfKey jwk (Set set) = ⊥

-- the second list has the algorithms of the first that agree with the key's `alg` (RFC 7517 section 4.4)
abbrev pub HasAgreeing : Jwk → List Algorithm → List Algorithm → Type 0
HasAgreeing jwk algorithms left =
    (a : Algorithm) → Contains left a ↔ (Contains algorithms a × AgreesWith a jwk)

-- the options with these algorithms
abbrev pub AreAgreeing : Jwk → Options → Options → Type 0
AreAgreeing jwk given used = (used ≡ with_algorithms given used.algorithms)
    × HasAgreeing jwk given.algorithms used.algorithms

-- The keys and options of a verifier, by the keys of a handle and the options that are given: one key that is not in a set,
-- for the algorithms that agree with it; or the set of the kept keys.
abbrev pub AreFor : KeyList → Options → Keys → Options → Type 0
AreFor held given keys used = MatchOption (lone_key held)
    (HasSet (kept_of held.items) keys × (used ≡ given))
    (λ jwk. IsOfKey jwk keys × AreAgreeing jwk given used)

-- a listed algorithm that agrees with the key's `alg` is verified with the key
abbrev pub KeyServes : List Algorithm → Jwk → Type 0
KeyServes algorithms jwk = (key : Key) × IsKeyOf jwk.algorithm key × ServesAs algorithms jwk key

-- so it is with one of these keys that has a `kid`
abbrev pub SetServes : List Algorithm → List Jwk → Type 0
SetServes algorithms kept = Any (JwkServes algorithms) kept

-- a verifier of these keys accepts some token
abbrev pub AreUsable : KeyList → List Algorithm → Type 0
AreUsable held algorithms =
    MatchOption (lone_key held) (SetServes algorithms (kept_of held.items)) (KeyServes algorithms)

-- the verifier has the keys of the handle and the options of the text, and prepares no more keys than the limits allow
abbrev pub IsVerifierOf : KeyList → List ℕ → Limits → Accepting → Type 0
IsVerifierOf held text limits v = (v.verifier.limits ≡ limits) × (v.verifier.keys.prepared ≤ limits.max_prepared)
    × ((given : AskedOptions) × ReadsText ReadsAsked text given × (v.further ≡ given.further)
    × AreFor held given.usual v.verifier.keys.keys (options_of v.verifier.validation) × AreUsable held given.usual.algorithms)

-- the status of keys that are not usable, or memory ran out
abbrev pub IsUnfit : Type 0 → ℕ → Type 0
IsUnfit Usable status =
    (status ≡ number kind.OutOfMemory) ⊎ ((status ≡ no_usable_key) × (¬ Usable))

-- why there is no verifier: memory ran out; or the text is not options; or no key is usable
abbrev pub IsUnmade : KeyList → List ℕ → ℕ → Type 0
IsUnmade held text status = (status ≡ number kind.OutOfMemory)
    ⊎ (((status ≡ input_status input.Options) × HasNoReading (ReadsText ReadsAsked text))
    ⊎ ((status ≡ no_usable_key) × ((given : AskedOptions) × ReadsText ReadsAsked text given
    × (¬ AreUsable held given.usual.algorithms))))

-- for private clauses: the keys and options of a verifier that is made of given ones; or no key is usable
abbrev pub IsVerifierBy : KeyList → Options → Limits → Verifier → Type 0
IsVerifierBy held given limits v = (v.limits ≡ limits) × (v.keys.prepared ≤ limits.max_prepared)
    × AreFor held given v.keys.keys (options_of v.validation) × AreUsable held given.algorithms

-- for a private clause: the status of keys of which no verifier is made
abbrev pub problem_status : KeyProblem → ℕ
problem_status AllZero = all_zero_secret
problem_status NoUsableKey = no_usable_key
problem_status Memory = number kind.OutOfMemory
