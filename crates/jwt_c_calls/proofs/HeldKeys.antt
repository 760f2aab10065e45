-- The items of a handle, one after another.
use Rattle.std.proofs.Common.{◌≡◌, ◌∙◌, ap, ℕ, ◌<◌, ◌+◌, List, [], ◌∷◌, ◌++◌, length, get_or, take, Option, Some, None}
use Rattle.std.specs.List.{cons_option}
use Rattle.std.proofs.lemmas.List.{append-nil, take_more}
use Rattle.std.proofs.lemmas.List.Elements.{filter_map-append}
use Rattle.jwt_keys.specs.declared.jwk.Jwk.{Jwk}
use Rattle.jwt_key_items.specs.KeyItems.{kept_key, kept_of}
use Rattle.jwt_key_items.specs.declared.Item.{Item}

module _ (items : List Item) (i : ℕ) (d : Item) (lt : i < length items) where
  abbrev pub before : List Jwk
  before = kept_of (take i items)

  more : kept_of (take (i + 1) items) ≡ before ++ cons_option (kept_key (get_or items i d)) []
  more = ap kept_of (take_more items i d lt) ∙ filter_map-append kept_key (take i items) (get_or items i d ∷ [])

  -- one more item that is kept, or skipped
  pub one_kept : (key : Jwk) → kept_key (get_or items i d) ≡ Some key → kept_of (take (i + 1) items) ≡ before ++ key ∷ []
  one_kept key e = more ∙ ap (λ o. before ++ cons_option o []) e

  pub one_skipped : kept_key (get_or items i d) ≡ None → kept_of (take (i + 1) items) ≡ before
  one_skipped e = more ∙ ap (λ o. before ++ cons_option o []) e ∙ append-nil before
