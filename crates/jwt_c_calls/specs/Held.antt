-- What the calls with handles leave: in the handles, and in numbers and buffers.
use Rattle.std.specs.Prelude.{◌≡◌, ◌⊎◌, ℕ, List, [], ◌∷◌, length, Option, Some, None, Result, Ok, Err, MatchOption}
use Rattle.std.specs.Prelude.{MatchResult, IsSome}
use Rattle.jwt_base.specs.Kind as kind
use Rattle.jwt_keys.specs.declared.jwk.Jwk.{Jwk}
use Rattle.jwt_params.specs.declared.thumbprints.ThumbprintHash.{ThumbprintHash}
use Rattle.jwt_verifier.specs.declared.limits.Limits.{Limits}
use Rattle.jwt_c_calls.specs.Acceptors.{Accepting, made_value}
use Rattle.jwt_c_calls.specs.Calls.{Answer, Leaves}
use Rattle.jwt_c_calls.specs.Contents.{acceptors_in, keys_in, AreJoined, IsSame}
use Rattle.jwt_c_calls.specs.KeyForms.{AnswersHashed}
use Rattle.jwt_c_calls.specs.KeyInfos.{info_at, key_at}
use Rattle.jwt_c_calls.specs.KeyLists.{KeyList, kept_len, with_more}
use Rattle.jwt_c_calls.specs.KeySources.{AreKeysOf, AreRefused}
use Rattle.jwt_c_calls.specs.Status.{number, handle_in_use, no_keys, no_verifier, unknown_number, IsKept}
use Rattle.jwt_c_calls.specs.Verifiers.{IsUnmade, IsVerifierOf}
use Rattle.jwt_c_calls.specs.declared.acceptors.Made.{Made}
use Rattle.jwt_c_calls.specs.declared.content.Content.{Content}
use Rattle.jwt_c_calls.specs.declared.held_keys.KeyInfo.{KeyInfo}
use Rattle.jwt_c_calls.specs.declared.key_sources.Source.{Source}

-- ---- keys

-- the keys that the bytes are stand after those that the handle had
abbrev pub AddsTo : Source → List ℕ → Option Content → Option Content → ℕ → ℕ → Type 0
AddsTo source bytes before after items kept = (acceptors_in before ≡ None)
    × ((more : KeyList) × AreKeysOf source bytes more × (keys_in after ≡ Some (with_more (keys_in before) more))
    × (items ≡ length more.items) × (kept ≡ kept_len more.items))

-- why none are added: the handle holds a verifier; or the bytes are refused
abbrev pub IsNotAdded : Source → List ℕ → Option Content → ℕ → Type 0
IsNotAdded source bytes before status = ((status ≡ no_keys) × IsSome (acceptors_in before))
    ⊎ ((acceptors_in before ≡ None) × AreRefused source bytes status)

-- a call that adds keys, or leaves the handle as it was
abbrev pub LeavesAdded : Option Source → List ℕ → Option Content → Option Content → ℕ → ℕ → ℕ → Type 0
LeavesAdded None bytes before after items kept status =
    (status ≡ unknown_number) × (items ≡ 0) × (kept ≡ 0) × IsSame before after
LeavesAdded (Some source) bytes before after items kept status =
    ((status ≡ 0) × AddsTo source bytes before after items kept)
    ⊎ (IsNotAdded source bytes before status × (items ≡ 0) × (kept ≡ 0) × IsSame before after)

-- what the item at a place of a handle can do, or the status for which there is none
abbrev pub info_held : Option KeyList → ℕ → Result KeyInfo ℕ
info_held None at = Err no_keys
info_held (Some keys) at = info_at keys at

abbrev pub no_info : KeyInfo
no_info = record { status = 0; verifies = 0; signs = 0 }

abbrev pub LeavesInfo : Result KeyInfo ℕ → KeyInfo → ℕ → Type 0
LeavesInfo (Ok found) info status = (status ≡ 0) × (info ≡ found)
LeavesInfo (Err why) info status = (status ≡ why) × (info ≡ no_info)

-- the key of the item at a place of a handle, or the status for which there is none
abbrev pub key_held : Option KeyList → ℕ → Result Jwk ℕ
key_held None at = Err no_keys
key_held (Some keys) at = key_at keys.items at

-- the key's answer in the buffer, or nothing
abbrev pub LeavesKey : (Jwk → Answer → Type 0) → Result Jwk ℕ → ℕ → ℕ → List ℕ → List ℕ → Type 0
LeavesKey Answers (Ok key) status len before after =
    (a : Answer) × Answers key a × Leaves a status len before after
LeavesKey Answers (Err why) status len before after = IsKept why status len before after

-- the thumbprint of a key; a number of no hash is refused first
abbrev pub LeavesThumbprint : Option ThumbprintHash → Result Jwk ℕ → ℕ → ℕ → List ℕ → List ℕ → Type 0
LeavesThumbprint None key = IsKept (number kind.InvalidAlgorithmName)
LeavesThumbprint (Some hash) key = LeavesKey (AnswersHashed hash) key

-- ---- making and sharing

-- the verifier is of the keys of a handle and the options of a text
abbrev pub IsMadeOf : Option KeyList → List ℕ → Limits → Accepting → Type 0
IsMadeOf None options limits v = ⊥
IsMadeOf (Some held) options limits v = IsVerifierOf held options limits v

-- the status says why there is none
abbrev pub IsUnmadeOf : Option KeyList → List ℕ → ℕ → Type 0
IsUnmadeOf None options status = status ≡ no_keys
IsUnmadeOf (Some held) options status = IsUnmade held options status

-- The content of a handle, before and after: a verifier of these keys and options, or the status of the reason for which
-- there is none. A handle that holds something is unchanged.
abbrev pub LeavesMade : Option KeyList → List ℕ → Limits → Option Content → Option Content → ℕ → Type 0
LeavesMade held options limits before after status = MatchOption before
    (MatchOption after (IsUnmadeOf held options status)
    (λ c. (status ≡ 0) × ((v : Accepting) × (acceptors_in (Some c) ≡ Some (v ∷ [])) × IsMadeOf held options limits v)))
    (λ _. (status ≡ handle_in_use) × (after ≡ before))

-- The content of another handle, before and after: the same as the first holds, unless memory ran out. If the first holds
-- nothing, neither does the other.
abbrev pub LeavesShared : Option Content → Option Content → Option Content → ℕ → Type 0
LeavesShared held before after status = MatchOption before
    (MatchOption held ((status ≡ no_verifier) × (after ≡ None))
    (λ c. MatchOption after (status ≡ number kind.OutOfMemory) (λ d. (status ≡ 0) × IsSame (Some c) (Some d))))
    (λ _. (status ≡ handle_in_use) × (after ≡ before))

-- The content of a third handle, before and after: the verifiers of the first and then of the second, unless memory ran out.
abbrev pub LeavesJoined : Option Content → Option Content → Option Content → Option Content → ℕ → Type 0
LeavesJoined first second before after status = MatchOption before
    (MatchOption after
    ((status ≡ number kind.OutOfMemory) ⊎ ((status ≡ no_verifier) × AreJoined (acceptors_in first) (acceptors_in second) None))
    (λ c. (status ≡ 0) × AreJoined (acceptors_in first) (acceptors_in second) (Some c)))
    (λ _. (status ≡ handle_in_use) × (after ≡ before))

-- ---- for private clauses

-- the verifier that was made is held, unless memory ran out
abbrev pub IsHeldAs : Result Made ℕ → Option Content → Option Content → ℕ → Type 0
IsHeldAs made before after status = MatchOption before
    (MatchOption after
    (MatchResult made (λ _. status ≡ number kind.OutOfMemory) (λ why. status ≡ why))
    (λ c. (status ≡ 0) × MatchResult made (λ m. acceptors_in (Some c) ≡ Some (made_value m ∷ [])) (λ _. ⊥)))
    (λ _. (status ≡ handle_in_use) × (after ≡ before))
