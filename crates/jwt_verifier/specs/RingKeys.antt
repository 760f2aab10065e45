-- The keys that a ring was made of.
use Rattle.std.specs.Prelude.{⊤, ℕ, List, find, take}
use Rattle.std.specs.BTreeMap.{BTreeMap, get_by_text}
use Rattle.std.specs.declared.string.String.{String}
use Rattle.jwt_keys.specs.Jwk.{has_id}
use Rattle.jwt_keys.specs.declared.jwk.Jwk.{Jwk}
use Rattle.jwt_verifier.specs.PreparedOf.{IsPreparedOf}
use Rattle.jwt_verifier.specs.Ring.{IsFoundEntry}
use Rattle.jwt_verifier.specs.declared.entry.Entry.{Entry}
use Rattle.jwt_verifier.specs.declared.entry.Prepared.{Prepared}
use Rattle.jwt_verifier.specs.declared.keys.Keys.{Keys}
use Rattle.jwt_verifier.specs.declared.keys.Keys.TheVariants.{One, Set}

-- each `kid` finds the first key that has it (RFC 7517 section 4.5)
abbrev pub IsIndexOf : {Y : Type 0} → List Jwk → BTreeMap (String Y) Entry → Type 0
IsIndexOf keys m = (kid : List ℕ) → IsFoundEntry keys (find (has_id kid) keys) (get_by_text m kid)

-- the same among the keys before this place
abbrev pub IsIndexUpTo : {Y : Type 0} → List Jwk → ℕ → BTreeMap (String Y) Entry → Type 0
IsIndexUpTo keys at m = (kid : List ℕ) → IsFoundEntry keys (find (has_id kid) (take at keys)) (get_by_text m kid)

-- what was prepared is of the key that is given, if one is
abbrev pub IsGivenOf : Keys → Prepared → Type 0
IsGivenOf (One key) given = IsPreparedOf key given
IsGivenOf (Set set) given = ⊤

-- the index is of the keys of the set, if one is given
abbrev pub IsNamedOf : {Y : Type 0} → Keys → BTreeMap (String Y) Entry → Type 0
IsNamedOf (One key) m = ⊤
IsNamedOf (Set set) m = IsIndexOf set.keys.items m

-- both
abbrev pub IsRingOf : {Y : Type 0} → Keys → Prepared → BTreeMap (String Y) Entry → Type 0
IsRingOf keys given m = IsGivenOf keys given × IsNamedOf keys m
