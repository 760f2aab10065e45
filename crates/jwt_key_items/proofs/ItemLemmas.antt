-- The items of a set, one after another.
use Rattle.std.proofs.Common.{◌≡◌, ℕ, zero, suc, ◌<◌, ◌+◌, List, [], ◌∷◌, ◌++◌, length, get_or, take, arith, add-one}
use Rattle.std.proofs.Common.{Option, Some, None, IsTrue, subst}
use Rattle.std.specs.Prelude.{MatchOption}
use Rattle.std.specs.List.{cons_option}
use Rattle.std.proofs.lemmas.Bool.{false≢true}
use Rattle.std.proofs.lemmas.List.Elements.{All-head, All-tail}
use Rattle.serde_json.specs.Data.{Data, Items, no_items, item}
use Rattle.serde_json.specs.View.{view, items_view}
use Rattle.serde_json.specs.declared.value.Value.{Value}
use Rattle.jwt_base.specs.JsonText.{ReadsText}
use Rattle.jwt_keys.specs.Jwk.{ReadsKey}
use Rattle.jwt_keys.specs.JwkSet.{ReadsKeys, ReadsSet}
use Rattle.jwt_keys.specs.declared.jwk.Jwk.{Jwk}
use Rattle.jwt_key_items.specs.KeyItems.{IsItem, IsUsage, AreItems, ReadsItems, key_kept, kept_of, is_kept, AreAllKept}
use Rattle.jwt_key_items.specs.declared.Item.{Item}
use Rattle.jwt_key_items.specs.declared.Reason.TheVariants as reason
use Rattle.jwt_key_items.specs.declared.Usage.{Usage}
use Rattle.jwt_key_items.specs.declared.Usage.TheVariants.{Kept, Skipped}

more_at : (vs : List Value) (i : ℕ) (d : Value) (items : List Item) (x : Item) → i < length vs
    → AreItems (items_view (take i vs)) items → IsItem (view (get_or vs i d)) x
    → AreItems (items_view (take (suc i) vs)) (items ++ x ∷ [])
more_at [] i d items x h r s = absurd (omega arith)
more_at (v ∷ vs) zero d [] x h r s = (s, tt)
more_at (v ∷ vs) zero d (y ∷ items) x h r s = absurd r
more_at (v ∷ vs) (suc i) d [] x h r s = absurd r
more_at (v ∷ vs) (suc i) d (y ∷ items) x h r s = (r.0, more_at vs i d items x (omega arith) r.1 s)

-- the items so far, and one more
pub one_more : (vs : List Value) (i : ℕ) (d : Value) (items : List Item) (x : Item) → i < length vs
    → AreItems (items_view (take i vs)) items → IsItem (view (get_or vs i d)) x
    → AreItems (items_view (take (i + 1) vs)) (items ++ x ∷ [])
one_more vs i d items x h r s = rw add-one (more_at vs i d items x h r s)

-- ---- a set whose items are all kept

key_read : (d : Data) (ds : Items) (key : Option Jwk) (u : Usage) (ks : List Jwk)
    → MatchOption key (((jwk : Jwk) → ¬ ReadsKey d jwk) × (u ≡ Skipped reason.NotAKey))
    (λ jwk. ReadsKey d jwk × IsUsage jwk u)
    → IsTrue (is_kept u) → ReadsKeys ds ks → ReadsKeys (item d ds) (cons_option (key_kept u key) ks)
key_read d ds None u ks m t r = absurd (false≢true (subst (λ x. IsTrue (is_kept x)) m.1 t))
key_read d ds (Some jwk) (Kept bits) ks m t r = (m.0, r)
key_read d ds (Some jwk) (Skipped why) ks m t r = absurd (false≢true t)

keys_read : (ds : Items) (items : List Item) → AreItems ds items → AreAllKept items → ReadsKeys ds (kept_of items)
keys_read no_items [] r kept = tt
keys_read no_items (i ∷ items) r kept = absurd r
keys_read (item d ds) [] r kept = absurd r
keys_read (item d ds) (i ∷ items) r kept = key_read d ds i.key i.usage (kept_of items) r.0
    (All-head (λ (x : Item). IsTrue (is_kept x.usage)) i items kept)
    (keys_read ds items r.1 (All-tail (λ (x : Item). IsTrue (is_kept x.usage)) i items kept))

set_read : (d : Data) (items : List Item) → ReadsItems d items → AreAllKept items → ReadsSet d (kept_of items)
set_read d items (ds, at, are) kept = (ds, at, keys_read ds items are kept)

-- the text of such a set reads as the kept keys
pub text_read : (text : List ℕ) (items : List Item) → ReadsText ReadsItems text items → AreAllKept items
    → ReadsText ReadsSet text (kept_of items)
text_read text items r kept = (r.0, (r.1.0, set_read r.0 items r.1.1 kept))
