-- The results of the calls for C that verify one signature of a message.
use Rattle.std.specs.Prelude.{◌≡◌, ◌⊎◌, ◌∷◌, ℕ, List, [], Option, Some, None, Result, Ok, Err, Contains, MatchResult}
use Rattle.jwt_base.specs.Kind.{Kind}
use Rattle.jwt_base.specs.Kind as kind
use Rattle.jwt_base.specs.declared.algorithms.Algorithm.{Algorithm}
use Rattle.jwt_keys.specs.Key.{Key}
use Rattle.jwt_standard.specs.StandardKeys.{verifier_refusal, StandardAccepts}
use Rattle.jwt_verifier.specs.declared.keys.Keys.{Keys}
use Rattle.jwt_verifier.specs.declared.keys.Keys.TheVariants.{One, Set}
use Rattle.jwt_c_calls.specs.Acceptors.{Accepting}
use Rattle.jwt_c_calls.specs.Contents.{acceptors_in}
use Rattle.jwt_c_calls.specs.Status.{algorithm_numbered, no_verifier, number, unfit_key}
use Rattle.jwt_c_calls.specs.declared.content.Content.{Content}

-- a verifier is made, and it accepts the signature of the message (RFC 7515 section 5.2, step 8; RFC 7518 section 3)
abbrev pub IsAcceptedBy : Algorithm → Key → (message signature : List ℕ) → Type 0
IsAcceptedBy algorithm key message signature =
    (verifier_refusal algorithm key ≡ None) × StandardAccepts algorithm key message signature

-- the kind with which no verifier is made; or one is made, and it does not accept the signature
abbrev pub IsRefusedBy : Algorithm → Key → (message signature : List ℕ) → Kind → Type 0
IsRefusedBy algorithm key message signature k = (verifier_refusal algorithm key ≡ Some k)
    ⊎ ((verifier_refusal algorithm key ≡ None) × (¬ StandardAccepts algorithm key message signature)
    × (k ≡ kind.InvalidSignature))

-- the one key of a verifier, and the algorithms that it accepts
pub record OneKey : Type 0 where
  pub key : Key
  pub algorithms : List Algorithm

abbrev pub one_key_of : Keys → List Algorithm → Result OneKey ℕ
one_key_of (One key) algorithms = Ok (record { key = key; algorithms = algorithms })
one_key_of (Set set) algorithms = Err unfit_key

-- that of one verifier; several, and one with a set, have none
abbrev pub one_key_in : Option (List Accepting) → Result OneKey ℕ
one_key_in None = Err no_verifier
one_key_in (Some []) = Err unfit_key
one_key_in (Some (v ∷ [])) = one_key_of v.verifier.keys.keys v.verifier.validation.algorithms.items
one_key_in (Some (v ∷ (w ∷ vs))) = Err unfit_key

-- the algorithm is listed, and the key accepts the signature by it
abbrev pub IsChecked : OneKey → Algorithm → (message signature : List ℕ) → Type 0
IsChecked one algorithm message signature =
    Contains one.algorithms algorithm × IsAcceptedBy algorithm one.key message signature

-- it is not listed, or the key refuses the signature
abbrev pub IsUnchecked : OneKey → Algorithm → (message signature : List ℕ) → Kind → Type 0
IsUnchecked one algorithm message signature k = (k ≡ kind.OutOfMemory)
    ⊎ (((k ≡ kind.InvalidAlgorithm) × ¬ Contains one.algorithms algorithm)
    ⊎ (Contains one.algorithms algorithm × IsRefusedBy algorithm one.key message signature k))

-- the status of a signature by the algorithm of a number
abbrev pub ChecksSignature : Option Algorithm → OneKey → (message signature : List ℕ) → ℕ → Type 0
ChecksSignature None one message signature status = status ≡ number kind.InvalidAlgorithmName
ChecksSignature (Some algorithm) one message signature status =
    ((status ≡ 0) × IsChecked one algorithm message signature)
    ⊎ ((k : Kind) × IsUnchecked one algorithm message signature k × (status ≡ number k))

-- the result of `jwt_verifier_check`
abbrev pub LeavesCheck : Option Content → Option Algorithm → (message signature : List ℕ) → ℕ → Type 0
LeavesCheck held algorithm message signature status = MatchResult (one_key_in (acceptors_in held))
    (λ one. ChecksSignature algorithm one message signature status) (λ why. status ≡ why)
