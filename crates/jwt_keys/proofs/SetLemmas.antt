-- The keys of a set, one after another.
use Rattle.std.proofs.Common.{◌≡◌, ℕ, zero, suc, ◌<◌, ◌+◌, List, [], ◌∷◌, ◌++◌, length, get_or, take, drop, arith}
use Rattle.std.proofs.Common.{add-one, drop-cons, false, Option, Some, None, option_map, option_and_then, unwrap_or}
use Rattle.std.proofs.Common.{codes, refl, sym, ap, ◌∙◌, subst}
use Rattle.serde_json.specs.Data.{Data, array, object, Items, no_items, item, Members, no_members, member}
use Rattle.serde_json.specs.Find.{as_array}
use Rattle.serde_json.specs.View.{items_of}
use Rattle.serde_json.specs.View.{view, items_view}
use Rattle.serde_json.specs.Written.{has_float, items_have_float}
use Rattle.serde_json.specs.declared.value.Value.{Value}
use Rattle.jwt_base.specs.Kind as kind
use Rattle.jwt_base.specs.KindOf.{RefusesAs}
use Rattle.jwt_base.specs.declared.errors.Error.{Error}
use Rattle.jwt_keys.specs.Jwk.{ReadsKey, key_members, key_value}
use Rattle.jwt_keys.specs.JwkSet.{ReadsKeys, ReadsSet, key_values, set_value, normal_set, IsNormalSet, HasNormalSet}
use Rattle.jwt_base.proofs.Readings.{weaker}
use Rattle.jwt_keys.proofs.JwkLemmas.{reads_written, reads_one_key, read_is_normal, has_normal_form, written_no_float}
use Rattle.jwt_keys.specs.declared.jwk.Jwk.{Jwk}

more_at : (vs : List Value) (i : ℕ) (d : Value) (ks : List Jwk) (k : Jwk) → i < length vs
    → ReadsKeys (items_view (take i vs)) ks → ReadsKey (view (get_or vs i d)) k
    → ReadsKeys (items_view (take (suc i) vs)) (ks ++ k ∷ [])
more_at [] i d ks k h r s = absurd (omega arith)
more_at (v ∷ vs) zero d [] k h r s = (s, tt)
more_at (v ∷ vs) zero d (x ∷ ks) k h r s = absurd r
more_at (v ∷ vs) (suc i) d [] k h r s = absurd r
more_at (v ∷ vs) (suc i) d (x ∷ ks) k h r s = (r.0, more_at vs i d ks k (omega arith) r.1 s)

pub one_more : (vs : List Value) (i : ℕ) (d : Value) (ks : List Jwk) (k : Jwk) → i < length vs
    → ReadsKeys (items_view (take i vs)) ks → ReadsKey (view (get_or vs i d)) k
    → ReadsKeys (items_view (take (i + 1) vs)) (ks ++ k ∷ [])
one_more vs i d ks k h r s = rw add-one (more_at vs i d ks k h r s)

tail_of : (v : Value) (vs : List Value) → (m : (more : List Jwk) × ReadsKeys (items_view (v ∷ vs)) more)
    → (more : List Jwk) × ReadsKeys (items_view vs) more
tail_of v vs ([], r) = absurd r
tail_of v vs (k ∷ ks, r) = (ks, r.1)

pub one_less : (vs : List Value) (i : ℕ) (d : Value) → i < length vs
    → (more : List Jwk) × ReadsKeys (items_view (drop i vs)) more
    → (more : List Jwk) × ReadsKeys (items_view (drop (i + 1) vs)) more
one_less vs i d h m = rw add-one (tail_of (get_or vs i d) (drop (suc i) vs) (rw (drop-cons vs i d h) at m))

head_of : (v : Value) (vs : List Value) → (more : List Jwk) × ReadsKeys (items_view (v ∷ vs)) more
    → (k : Jwk) × ReadsKey (view v) k
head_of v vs ([], r) = absurd r
head_of v vs (k ∷ ks, r) = (k, r.0)

readable_at : (vs : List Value) (i : ℕ) (d : Value) → i < length vs
    → (more : List Jwk) × ReadsKeys (items_view (drop i vs)) more → (k : Jwk) × ReadsKey (view (get_or vs i d)) k
readable_at vs i d h m = head_of (get_or vs i d) (drop (suc i) vs) (rw (drop-cons vs i d h) at m)

-- an item that reads as no key leaves no list to read
pub unreadable-list : (vs : List Value) (i : ℕ) (d : Value) (e : Error) → i < length vs
    → ((ks : List Jwk) → ReadsKeys (items_view vs) ks → (more : List Jwk) × ReadsKeys (items_view (drop i vs)) more)
    → RefusesAs kind.Json ((k : Jwk) → ¬ ReadsKey (view (get_or vs i d)) k) e
    → RefusesAs kind.Json ((ks : List Jwk) → ¬ ReadsKeys (items_view vs) ks) e
unreadable-list vs i d e h left = weaker _ _ e (λ none ks r. let one = readable_at vs i d h (left ks r) in none one.0 one.1)

-- ---- normal forms

then_at : (k : Jwk) (ks : List Jwk) (ds : List Data) (o : Option Data) (more : Option (List Data)) → key_value k ≡ o
    → key_values ks ≡ more → option_and_then (λ d. option_map (λ es. d ∷ es) more) o ≡ Some ds
    → ((es : List Data) → key_values ks ≡ Some es → ReadsKeys (items_of es) (normal_set ks))
    → ReadsKeys (items_of ds) (normal_set (k ∷ ks))
then_at k ks ds None more e f is later = absurd (cc)
then_at k ks ds (Some d) None e f is later = absurd (cc)
then_at k ks ds (Some d) (Some es) e f is later = subst (λ x. ReadsKeys (items_of x) (normal_set (k ∷ ks)))
    (ap (λ o. unwrap_or o ds) is) (reads_written k d e, later es f)

keys_written : (ks : List Jwk) (ds : List Data) → key_values ks ≡ Some ds → ReadsKeys (items_of ds) (normal_set ks)
keys_written [] ds is = subst (λ x. ReadsKeys (items_of x) []) (ap (λ o. unwrap_or o ds) is) tt
keys_written (k ∷ ks) ds is = then_at k ks ds _ _ refl refl is (keys_written ks)

set_at : (ks : List Jwk) (d : Data) (o : Option (List Data)) → key_values ks ≡ o
    → option_map (λ ds. object (member (codes "keys") (array (items_of ds)) no_members)) o ≡ Some d → ReadsSet d (normal_set ks)
set_at ks d None e is = absurd (cc)
set_at ks d (Some ds) e is = subst (λ x. ReadsSet x (normal_set ks)) (ap (λ o. unwrap_or o d) is) (
  items_of ds,
  refl,
  keys_written ks ds e,
)

set_written : (ks : List Jwk) (d : Data) → set_value ks ≡ Some d → ReadsSet d (normal_set ks)
set_written ks d is = set_at ks d _ refl is

one_list : (ds : Items) (ks ls : List Jwk) → ReadsKeys ds ks → ReadsKeys ds ls → ks ≡ ls
one_list no_items [] [] r s = refl
one_list no_items [] (l ∷ ls) r s = absurd s
one_list no_items (k ∷ ks) ls r s = absurd r
one_list (item d ds) [] ls r s = absurd r
one_list (item d ds) (k ∷ ks) [] r s = absurd s
one_list (item d ds) (k ∷ ks) (l ∷ ls) r s = λ i. reads_one_key d k l r.0 s.0 i ∷ one_list ds ks ls r.1 s.1 i

one_set : (d : Data) (ks ls : List Jwk) → ReadsSet d ks → ReadsSet d ls → ks ≡ ls
one_set d ks ls (ds, at, r) (es, there, s) =
    let same : array ds ≡ array es = ap (λ o. unwrap_or o (array ds)) (sym at ∙ there) in
    let items : ds ≡ es = ap (λ x. unwrap_or (as_array x) ds) same in
    one_list es ks ls (subst (λ x. ReadsKeys x ks) items r) s

set_twice : (ks : List Jwk) → normal_set (normal_set ks) ≡ normal_set ks
set_twice [] = refl
set_twice (k ∷ ks) = λ i. (has_normal_form k).once i ∷ set_twice ks i

keys_stay : (ds : Items) (ks : List Jwk) → ReadsKeys ds ks → normal_set ks ≡ ks
keys_stay no_items [] r = refl
keys_stay no_items (k ∷ ks) r = absurd r
keys_stay (item d ds) [] r = absurd r
keys_stay (item d ds) (k ∷ ks) r = λ i. (read_is_normal d k r.0).itself i ∷ keys_stay ds ks r.1 i

keys_are_written : (ds : Items) (ks : List Jwk) → ReadsKeys ds ks → (es : List Data) × (key_values ks ≡ Some es)
keys_are_written no_items [] r = ([], refl)
keys_are_written no_items (k ∷ ks) r = absurd r
keys_are_written (item d ds) [] r = absurd r
keys_are_written (item d ds) (k ∷ ks) r =
    let first = (read_is_normal d k r.0).written in
    let more = keys_are_written ds ks r.1 in
    (first.0 ∷ more.0, rw (first.1, more.1))

pub read_is_normal_set : (d : Data) (ks : List Jwk) → ReadsSet d ks → IsNormalSet ks
read_is_normal_set d ks (ds, at, r) =
    let written = keys_are_written ds ks r in
    record {
      itself = keys_stay ds ks r;
      written = (object (member (codes "keys") (array (items_of written.0)) no_members), rw written.1);
    }

same_written : (ks ls : List Jwk) → IsNormalSet ks → IsNormalSet ls → set_value ks ≡ set_value ls → ks ≡ ls
same_written ks ls n m e =
    let d = m.written.0 in
    sym n.itself ∙ one_set d (normal_set ks) (normal_set ls) (set_written ks d (e ∙ m.written.1))
    (set_written ls d m.written.1) ∙ m.itself

pub has_normal_set : (ks : List Jwk) → HasNormalSet ks
has_normal_set ks = record {
  reads_back = λ d is ls. (
    λ r. one_set d ls (normal_set ks) r (set_written ks d is),
    λ e. subst (ReadsSet d) (sym e) (set_written ks d is),
  );
  once = set_twice ks;
  told_apart = λ n ls m. (same_written ks ls n m, ap set_value);
}

-- ---- no float in a written set

value_no_float : (k : Jwk) (o : Option Members) (d : Data) → key_members k ≡ o → option_map object o ≡ Some d
    → has_float d ≡ false
value_no_float k None d e is = absurd (cc)
value_no_float k (Some ms) d e is = subst (λ x. has_float x ≡ false) (ap (λ x. unwrap_or x d) is) (written_no_float k ms e)

one_more_written : (k : Jwk) (o : Option Data) (p : Option (List Data)) (ds : List Data) → key_value k ≡ o
    → ((es : List Data) → p ≡ Some es → items_have_float (items_of es) ≡ false)
    → option_and_then (λ d. option_map (λ more. d ∷ more) p) o ≡ Some ds → items_have_float (items_of ds) ≡ false
one_more_written k None p ds v f is = absurd (cc)
one_more_written k (Some d) None ds v f is = absurd (cc)
one_more_written k (Some d) (Some es) ds v f is =
    subst (λ x. items_have_float (items_of x) ≡ false) (ap (λ x. unwrap_or x ds) is)
    (rw (value_no_float k _ d refl v, f es refl) refl)

keys_no_float : (ks : List Jwk) (ds : List Data) → key_values ks ≡ Some ds → items_have_float (items_of ds) ≡ false
keys_no_float [] ds is = subst (λ x. items_have_float (items_of x) ≡ false) (ap (λ x. unwrap_or x ds) is) refl
keys_no_float (k ∷ ks) ds is = one_more_written k _ _ ds refl (keys_no_float ks) is

set_no_float_at : (ks : List Jwk) (o : Option (List Data)) (d : Data) → key_values ks ≡ o
    → option_map (λ ds. object (member (codes "keys") (array (items_of ds)) no_members)) o ≡ Some d → has_float d ≡ false
set_no_float_at ks None d e is = absurd (cc)
set_no_float_at ks (Some ds) d e is = subst (λ x. has_float x ≡ false) (ap (λ x. unwrap_or x d) is)
    (rw (keys_no_float ks ds e) refl)

pub set_no_float : (ks : List Jwk) (d : Data) → set_value ks ≡ Some d → has_float d ≡ false
set_no_float ks d is = set_no_float_at ks _ d refl is
