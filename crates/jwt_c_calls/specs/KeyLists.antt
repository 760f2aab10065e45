-- The keys of a handle as a list: the items of all texts that were added.
use Rattle.std.specs.Prelude.{◌++◌, ℕ, List, [], ◌∷◌, length, Bool, true, Option, Some, None, is_some}
use Rattle.std.specs.Prelude.{if◌then◌else◌}
use Rattle.std.specs.List.{filter}
use Rattle.jwt_keys.specs.declared.jwk.Jwk.{Jwk}
use Rattle.jwt_key_items.specs.KeyItems.{kept_key}
use Rattle.jwt_key_items.specs.declared.Item.{Item}
use Rattle.jwt_c_calls.specs.declared.held_keys.HeldKeys.{HeldKeys}

-- the items, and whether they are a set, in which a token's header selects the key (RFC 7517 section 5)
pub record KeyList : Type 0 where
  pub items : List Item
  pub is_set : Bool

abbrev pub keys_of : HeldKeys → KeyList
keys_of h = record { items = h.items.items; is_set = h.is_set }

-- the number of the items that are kept
abbrev pub kept_len : List Item → ℕ
kept_len items = length (filter (λ i. is_some (kept_key i)) items)

-- the keys with more after them: all together are one set then
abbrev pub with_more : Option KeyList → KeyList → KeyList
with_more None more = more
with_more (Some keys) more = record { items = keys.items ++ more.items; is_set = true }

-- the key of the only item
abbrev pub only_key : List Item → Option Jwk
only_key [] = None
only_key (i ∷ []) = kept_key i
only_key (i ∷ j ∷ more) = None

-- the one key that is not in a set: each token is verified with it
abbrev pub lone_key : KeyList → Option Jwk
lone_key keys = if keys.is_set then None else only_key keys.items
