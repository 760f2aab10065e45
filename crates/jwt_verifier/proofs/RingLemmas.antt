-- An index of the keys of a set, made from the first to the last.
use Rattle.std.proofs.Common.{◌≡◌, ◌∷◌, ◌∙◌, ◌<◌, ◌≤◌, ◌+◌, ◌++◌, ℕ, List, Bool, true, false, Option, Some, None, ap, find, get_or, length}
use Rattle.std.proofs.Common.{Bor, [], cond, inr, refl, string_bytes, subst, sym, take}
use Rattle.std.proofs.lemmas.List.{take_all, take_more}
use Rattle.std.proofs.lemmas.List.Folds.{find-append}
use Rattle.std.proofs.lemmas.Slice.Eq.{bytes_eq-Decides}
use Rattle.std.specs.BTreeMap.{BTreeMap, get_by_text, is_at}
use Rattle.std.specs.Cmp.Lexicographic.{slice_cmp}
use Rattle.std.specs.Map.{lookup}
use Rattle.std.specs.Option.{is_some, ok_or, option_copied, option_map_or, option_or}
use Rattle.std.specs.Ordering.{nat_cmp}
use Rattle.std.specs.Prelude.{⊤, MatchBool, MatchOption, option_and_then}
use Rattle.std.specs.Str.{bytes_eq}
use Rattle.std.specs.declared.string.String.{String}
use Rattle.jwt_base.specs.Kind as kind
use Rattle.jwt_base.specs.KindOf.{kind_of}
use Rattle.jwt_header.specs.declared.header.Header.{Header}
use Rattle.jwt_keys.specs.Jwk.{has_id}
use Rattle.jwt_keys.specs.Key.{Key}
use Rattle.jwt_keys.specs.KeyOfJwk.{IsKeyOf}
use Rattle.jwt_keys.specs.declared.jwk.Jwk.{Jwk}
use Rattle.jsonwebtoken.specs.Steps.{Finds}
use Rattle.jsonwebtoken.specs.Tests.{named_key}
use Rattle.jsonwebtoken.specs.declared.refusal.Refusal.{Refusal}
use Rattle.jsonwebtoken.specs.declared.refusal.Test.TheVariants.{KeyIsFound}
use Rattle.jwt_verifier.specs.Ring.{IsEntryOf, IsFoundEntry}
use Rattle.jwt_verifier.specs.RingKeys.{IsIndexOf, IsIndexUpTo}
use Rattle.jwt_verifier.specs.declared.entry.Entry.{Entry}

-- ---- one key more

-- what was found, and else this key if it is asked for
abbrev or_this : Bool → Jwk → Option Jwk → Option Jwk
or_this b jwk found = option_or found (cond b (Some jwk) None)

module _ (keys : List Jwk) (jwk : Jwk) where
  -- it is not asked for
  other : (found : Option Jwk) (o : Option Entry) (b : Bool) → b ≡ false → IsFoundEntry keys found o
      → IsFoundEntry keys (or_this b jwk found) o
  other None o true off x = absurd (subst (λ (b : Bool). MatchBool b ⊤ ⊥) off tt)
  other None o false off x = x
  other (Some j) o b off x = x

  -- the entry of its `kid` is there
  there : (found : Option Jwk) (o : Option Entry) (b : Bool) → (b ≡ true → is_some o ≡ true)
      → IsFoundEntry keys found o → IsFoundEntry keys (or_this b jwk found) o
  there (Some j) o b has x = x
  there None o false has x = x
  there None None true has x = absurd (subst (λ (b : Bool). MatchBool b ⊤ ⊥) (sym (has refl)) tt)
  there None (Some e) true has x = absurd x

  -- it is the first one
  first : (found : Option Jwk) (o : Option Entry) (b : Bool) (e : Entry) → (b ≡ true → is_some o ≡ false)
      → IsEntryOf keys jwk e → IsFoundEntry keys found o
      → IsFoundEntry keys (or_this b jwk found) (cond b (Some e) o)
  first None o true e none this x = this
  first None o false e none this x = x
  first (Some j) o false e none this x = x
  first (Some j) None true e none this x = absurd x
  first (Some j) (Some d) true e none this x = absurd (subst (λ (b : Bool). MatchBool b ⊤ ⊥) (none refl) tt)

module _ (keys : List Jwk) (at : ℕ) (jwk : Jwk) (within : at < length keys) (is : jwk ≡ get_or keys at jwk) where
  -- the keys up to this one
  up_to : take (at + 1) keys ≡ take at keys ++ jwk ∷ []
  up_to = take_more keys at jwk within ∙ ap (λ (j : Jwk). take at keys ++ j ∷ []) (sym is)

  found_up_to : (kid : List ℕ) → find (has_id kid) (take (at + 1) keys) ≡ or_this (has_id kid jwk) jwk (find (has_id kid) (take at keys))
  found_up_to kid = ap (find (has_id kid)) up_to ∙ find-append (has_id kid) (take at keys) (jwk ∷ [])

  -- a key without a `kid` is not found
  pub nameless : {Y : Type 0} (m : BTreeMap (String Y) Entry) → jwk.common.key_id ≡ None → IsIndexUpTo keys at m
      → IsIndexUpTo keys (at + 1) m
  nameless m none before kid =
      let no : has_id kid jwk ≡ false = ap (λ (id : Option (List ℕ)). option_map_or (λ i. bytes_eq i kid) id false) none in
      subst (λ (o : Option Jwk). IsFoundEntry keys o (get_by_text m kid)) (sym (found_up_to kid))
      (other keys jwk (find (has_id kid) (take at keys)) (get_by_text m kid) (has_id kid jwk) no (before kid))

  module _ (id : List ℕ) (some : jwk.common.key_id ≡ Some id) where
    has : (kid : List ℕ) → has_id kid jwk ≡ bytes_eq id kid
    has kid = ap (λ (i : Option (List ℕ)). option_map_or (λ x. bytes_eq x kid) i false) some

    -- what the index has at its `kid`, it has at each that is asked for
    at_name : {Y : Type 0} (m : BTreeMap (String Y) Entry) (b : Bool) → is_some (get_by_text m id) ≡ b → (kid : List ℕ)
        → bytes_eq id kid ≡ true → is_some (get_by_text m kid) ≡ b
    at_name m b known kid equal =
        subst (λ (x : List ℕ). is_some (get_by_text m x) ≡ b) ((bytes_eq-Decides id kid).0 equal) known

    -- one whose `kid` a key before it has is not found
    pub repeated : {Y : Type 0} (m : BTreeMap (String Y) Entry) → is_some (get_by_text m id) ≡ true
        → IsIndexUpTo keys at m → IsIndexUpTo keys (at + 1) m
    repeated m known before kid =
        subst (λ (o : Option Jwk). IsFoundEntry keys o (get_by_text m kid))
        (sym (found_up_to kid ∙ ap (λ (b : Bool). or_this b jwk (find (has_id kid) (take at keys))) (has kid)))
        (there keys jwk (find (has_id kid) (take at keys)) (get_by_text m kid) (bytes_eq id kid)
        (at_name m true known kid) (before kid))

    -- any other is found by its `kid`
    pub named : {Y : Type 0} (m n : BTreeMap (String Y) Entry) (e : Entry) → is_some (get_by_text m id) ≡ false
        → ((j : Jwk) → IsEntryOf keys (get_or keys at j) e)
        → ((kid : List ℕ) → get_by_text n kid ≡ cond (bytes_eq id kid) (Some e) (get_by_text m kid))
        → IsIndexUpTo keys at m → IsIndexUpTo keys (at + 1) n
    named m n e known entry updates before kid =
        let this : IsEntryOf keys jwk e = subst (λ (j : Jwk). IsEntryOf keys j e) (sym is) (entry jwk) in
        subst (λ (o : Option Jwk). IsFoundEntry keys o (get_by_text n kid))
        (sym (found_up_to kid ∙ ap (λ (b : Bool). or_this b jwk (find (has_id kid) (take at keys))) (has kid)))
        (subst (λ (o : Option Entry). IsFoundEntry keys (or_this (bytes_eq id kid) jwk (find (has_id kid) (take at keys))) o)
        (sym (updates kid))
        (first keys jwk (find (has_id kid) (take at keys)) (get_by_text m kid) (bytes_eq id kid) e
        (at_name m false known kid) this (before kid)))

-- ---- no key, and all keys

-- nothing is found before the first key
pub empty : {Y : Type 0} (keys : List Jwk) (m : BTreeMap (String Y) Entry) → m.entries ≡ [] → IsIndexUpTo keys 0 m
empty {Y = Y} keys m none kid =
    subst (λ (es : List (String Y × Entry)). IsFoundEntry keys None (lookup (is_at (λ k. slice_cmp nat_cmp kid (string_bytes k))) es))
    (sym none) tt

pub whole_index : {Y : Type 0} (keys : List Jwk) (at : ℕ) (m : BTreeMap (String Y) Entry) → length keys ≤ at
    → IsIndexUpTo keys at m → IsIndexOf keys m
whole_index keys at m past before kid =
    subst (λ (js : List Jwk). IsFoundEntry keys (find (has_id kid) js) (get_by_text m kid)) (take_all at keys past) (before kid)

-- ---- what is found

has_entry : (keys : List Jwk) (found : Option Jwk) (e : Entry) → IsFoundEntry keys found (Some e)
    → (j : Jwk) × (found ≡ Some j) × IsEntryOf keys j e
has_entry keys None e x = absurd x
has_entry keys (Some j) e x = (j, refl, x)

has_none : (keys : List Jwk) (found : Option Jwk) → IsFoundEntry keys found None → found ≡ None
has_none keys None x = refl
has_none keys (Some j) x = absurd x

module _ {Y : Type 0} (keys : List Jwk) (h : Header) (kid : List ℕ) (m : BTreeMap (String Y) Entry) (some : h.kid ≡ Some kid)
    (index : IsIndexOf keys m) where
  named_is : named_key keys h ≡ find (has_id kid) keys
  named_is = ap (λ (id : Option (List ℕ)). option_and_then (λ k. find (has_id k) keys) id) some

  pub has_named : (q : Option (Bor Entry)) → option_copied q ≡ get_by_text m kid
      → MatchOption q (named_key keys h ≡ None) (λ e. (j : Jwk) × (named_key keys h ≡ Some j) × IsEntryOf keys j e.now)
  has_named (Some e) is =
      let f = has_entry keys (find (has_id kid) keys) e.now
      (subst (λ (o : Option Entry). IsFoundEntry keys (find (has_id kid) keys) o) (sym is) (index kid)) in
      (f.0, named_is ∙ f.1, f.2)
  has_named None is = named_is ∙ has_none keys (find (has_id kid) keys)
      (subst (λ (o : Option Entry). IsFoundEntry keys (find (has_id kid) keys) o) (sym is) (index kid))

-- the entry that the header names, or the refusal
pub finds_entry : (keys : List Jwk) (h : Header) (q : Option (Bor Entry)) (none : Refusal)
    → MatchOption q (named_key keys h ≡ None) (λ e. (j : Jwk) × (named_key keys h ≡ Some j) × IsEntryOf keys j e.now)
    → none.test ≡ KeyIsFound → kind_of none.error ≡ kind.NoKey
    → Finds KeyIsFound (λ e. (j : Jwk) × (named_key keys h ≡ Some j) × IsEntryOf keys j e.now)
    (named_key keys h ≡ None) (λ k. k ≡ kind.NoKey) (ok_or q none)
finds_entry keys h (Some e) none has test nokey = has
finds_entry keys h None none has test nokey = inr (has, (sym test, nokey))

-- the key that is found is that of the entry
pub of_entry : (keys : List Jwk) (h : Header) (e : Entry) (jwk : Jwk)
    → (j : Jwk) × (named_key keys h ≡ Some j) × IsEntryOf keys j e → jwk ≡ get_or keys e.at jwk
    → (named_key keys h ≡ Some jwk) × ((k : Key) → e.key ≡ Some k → IsKeyOf jwk.algorithm k)
of_entry keys h e jwk found is =
    let same : found.0 ≡ jwk = sym (found.2.is jwk) ∙ sym is in (
      found.1 ∙ ap (λ (j : Jwk). Some j) same,
      λ k kept. subst (λ (j : Jwk). IsKeyOf j.algorithm k) same (found.2.key k kept),
    )
