-- A set of keys (RFC 7517 section 5), key by key.
use Rattle.std.specs.Prelude.{◌≡◌, ◌↔◌, List, [], ◌∷◌, Option, Some, option_map, option_and_then, map, codes}
use Rattle.serde_json.specs.Data.{Data, array, object, Items, no_items, item, no_members, member}
use Rattle.serde_json.specs.Find.{get}
use Rattle.serde_json.specs.View.{items_of}
use Rattle.jwt_keys.specs.Jwk.{ReadsKey, key_value, marked_key}
use Rattle.jwt_keys.specs.JwkWritten.{normal_key}
use Rattle.jwt_keys.specs.declared.jwk.Jwk.{Jwk}
use Rattle.jwt_keys.specs.declared.jwk_set.JwkSet.{JwkSet}

-- each item reads as the key at its place (RFC 7517 section 5.1)
abbrev pub ReadsKeys : Items → List Jwk → Type 0
ReadsKeys no_items [] = Unit {0}
ReadsKeys no_items (k ∷ ks) = ⊥
ReadsKeys (item d ds) [] = ⊥
ReadsKeys (item d ds) (k ∷ ks) = ReadsKey d k × ReadsKeys ds ks

-- `keys` is a list of these keys; other members are ignored (RFC 7517 sections 5 and 5.1)
abbrev pub ReadsSet : Data → List Jwk → Type 0
ReadsSet d ks = (ds : Items) × (get (codes "keys") d ≡ Some (array ds)) × ReadsKeys ds ks

-- the keys' values in their order; None if one cannot be written (RFC 7517 section 5.1)
abbrev pub key_values : List Jwk → Option (List Data)
key_values [] = Some []
key_values (k ∷ ks) =
    option_and_then (λ d. option_map (λ more. d ∷ more) (key_values ks)) (key_value k)

-- the object with the list `keys` alone (RFC 7517 sections 5 and 5.1)
abbrev pub set_value : List Jwk → Option Data
set_value ks = option_map
    (λ ds. object (member (codes "keys") (array (items_of ds)) no_members)) (key_values ks)

-- the normal form of each key
abbrev pub normal_set : List Jwk → List Jwk
normal_set = map normal_key

-- its own normal form, and one that can be written
pub record IsNormalSet (ks : List Jwk) : Type 0 where
  pub itself : normal_set ks ≡ ks
  pub written : (d : Data) × (set_value ks ≡ Some d)

-- A written value is read as its normal form alone; a normal form is its own; and two normal forms
-- are the same if they are written alike.
pub record HasNormalSet (ks : List Jwk) : Type 0 where
  pub reads_back : (d : Data) → set_value ks ≡ Some d
      → (ls : List Jwk) → ReadsSet d ls ↔ (ls ≡ normal_set ks)
  pub once : normal_set (normal_set ks) ≡ normal_set ks
  pub told_apart : IsNormalSet ks → (ls : List Jwk) → IsNormalSet ls
      → (set_value ks ≡ set_value ls) ↔ (ks ≡ ls)

-- the keys with one mark in place of each float
abbrev pub marked_set : JwkSet → List Jwk
marked_set s = map marked_key s.keys.items
