-- What a handle holds: keys, or verifiers, or nothing.
use Rattle.std.specs.Prelude.{◌≡◌, ◌∷◌, ◌++◌, List, Option, Some, None}
use Rattle.jwt_c_calls.specs.Acceptors.{Accepting, accepting, accepting_all}
use Rattle.jwt_c_calls.specs.KeyLists.{KeyList, keys_of}
use Rattle.jwt_c_calls.specs.declared.content.Content.{Content}
use Rattle.jwt_c_calls.specs.declared.content.Content.TheVariants as holds

abbrev pub keys_in : Option Content → Option KeyList
keys_in None = None
keys_in (Some (holds.Keys keys)) = Some (keys_of keys)
keys_in (Some (holds.Verifier first others)) = None

abbrev pub acceptors_in : Option Content → Option (List Accepting)
acceptors_in None = None
acceptors_in (Some (holds.Keys keys)) = None
acceptors_in (Some (holds.Verifier first others)) = Some (accepting first ∷ accepting_all others.items)

-- both hold the same
abbrev pub IsSame : Option Content → Option Content → Type 0
IsSame before after = (keys_in after ≡ keys_in before) × (acceptors_in after ≡ acceptors_in before)

-- a content with the verifiers of the one and then of the other; none, if one of the two has none
abbrev pub AreJoined : Option (List Accepting) → Option (List Accepting) → Option Content → Type 0
AreJoined None second joined = joined ≡ None
AreJoined (Some vs) None joined = joined ≡ None
AreJoined (Some vs) (Some ws) joined = acceptors_in joined ≡ Some (vs ++ ws)
