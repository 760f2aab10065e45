-- The bytes of prepared keys, as entries are put into an index, and the algorithms that a key is prepared for.
use Rattle.std.proofs.Common.{◌≡◌, ◌∷◌, ◌+◌, ◌≤◌, ℕ, List, [], None, All, Contains, ap, arith, inl, inr, subst, sym}
use Rattle.std.proofs.lemmas.List.{get_or_default}
use Rattle.std.proofs.lemmas.List.Sums.{sum_by-cons}
use Rattle.std.specs.BTreeMap.{BTreeMap, insert_entry}
use Rattle.std.specs.List.{sum_by}
use Rattle.std.specs.Map.{values_of}
use Rattle.std.specs.Ordering.{match_ordering}
use Rattle.std.specs.declared.cmp.Ordering.{Ordering}
use Rattle.std.specs.declared.cmp.Ordering.TheVariants.{Less, Equal, Greater}
use Rattle.std.specs.declared.string.String.{String}
use Rattle.jwt_base.specs.Algorithm.{family_of}
use Rattle.jwt_base.specs.declared.algorithms.Algorithm.{Algorithm}
use Rattle.jwt_keys.specs.Key.{Key}
use Rattle.jwt_keys.specs.declared.jwk.Jwk.{Jwk}
use Rattle.jsonwebtoken.specs.Tests.{AgreesWith}
use Rattle.jwt_verifier.specs.PreparedOf.{IsNeeded, IsNeededOf}
use Rattle.jwt_verifier.specs.PreparedSize.{named_size, prepared_size}
use Rattle.jwt_verifier.specs.declared.entry.Entry.{Entry}
use Rattle.jwt_verifier.specs.declared.entry.Prepared.{Prepared}

-- ---- sums over an index

module _ {K X : Type 0} (cmp : K → K → Ordering) (f : X → ℕ) where
  first : (e : K × X) (es : List (K × X)) → sum_by f (values_of (e ∷ es)) ≡ f e.1 + sum_by f (values_of es)
  first e es = sum_by-cons f e.1 (values_of es)

  placed : (o : Ordering) (k : K) (v : X) (e : K × X) (es rest : List (K × X))
      → sum_by f (values_of rest) ≤ sum_by f (values_of es) + f v
      → sum_by f (values_of (match_ordering o ((k, v) ∷ e ∷ es) ((e.0, v) ∷ es) (e ∷ rest)))
      ≤ sum_by f (values_of (e ∷ es)) + f v
  placed Less k v e es rest before = omega (arith, first (k, v) (e ∷ es), first e es)
  placed Equal k v e es rest before = omega (arith, first (e.0, v) es, first e es)
  placed Greater k v e es rest before = omega (arith, first e rest, first e es)

  inserted : (es : List (K × X)) (k : K) (v : X)
      → sum_by f (values_of (insert_entry cmp es k v)) ≤ sum_by f (values_of es) + f v
  inserted [] k v = omega (arith, first (k, v) [])
  inserted (e ∷ es) k v = placed (cmp k e.0) k v e es (insert_entry cmp es k v) (inserted es k v)

-- an entry takes no more than what is prepared of it
pub named_more : {Y : Type 0} (cmp : String Y → String Y → Ordering) (m n : BTreeMap (String Y) Entry) (k : String Y)
    (e : Entry) → n.entries ≡ insert_entry cmp m.entries k e → named_size n ≤ named_size m + prepared_size e.prepared
named_more {Y = Y} cmp m n k e is =
    subst (λ (es : List (String Y × Entry)). sum_by (λ (x : Entry). prepared_size x.prepared) (values_of es)
    ≤ named_size m + prepared_size e.prepared) (sym is)
    (inserted cmp (λ (x : Entry). prepared_size x.prepared) m.entries k e)

pub none_named : {Y : Type 0} (m : BTreeMap (String Y) Entry) → m.entries ≡ [] → named_size m ≡ 0
none_named {Y = Y} m none =
    ap (λ (es : List (String Y × Entry)). sum_by (λ (x : Entry). prepared_size x.prepared) (values_of es)) none

-- ---- algorithms

-- all agree with a key that is for none
pub all_agree : (listed : List Algorithm) (jwk : Jwk) → jwk.common.key_algorithm ≡ None
    → All (λ a. Contains listed a × AgreesWith a jwk) listed
all_agree listed jwk none k d within = ((k, within, get_or_default listed k _ d within), inl none)

-- one that agrees with the key is of its family
pub needed_of : (jwk : Jwk) (listed agreeing : List Algorithm) (key : Key) (p : Prepared)
    → All (λ a. Contains listed a × AgreesWith a jwk) agreeing → IsNeeded agreeing key p → IsNeededOf jwk listed key p
needed_of jwk listed agreeing key p agree (inl none) = inl none
needed_of jwk listed agreeing key p agree (inr some) =
    let this : Contains listed some.1 × AgreesWith some.1 jwk =
    subst (λ (a : Algorithm). Contains listed a × AgreesWith a jwk) some.3 (agree some.0 some.1 some.2) in
    inr (this.0.0, some.1, this.0.1, this.0.2, (this.1, some.4))
