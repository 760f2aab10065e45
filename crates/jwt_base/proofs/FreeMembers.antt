-- Members under other names, and without floats.
use Rattle.std.proofs.Common.{◌≡◌, ℕ, List, ◌||◌, Bool, true, false, cond, Ordering, Less, Equal, Greater, nat_cmp}
use Rattle.std.proofs.Common.{true≢false, refl, ap, [], ◌∷◌, map, Option, Some, None, option_map}
use Rattle.std.specs.Cmp.Lexicographic.{slice_cmp}
use Rattle.std.specs.Ordering.{match_ordering}
use Rattle.serde_json.specs.Data.{Data, string, Members, no_members, member, put}
use Rattle.serde_json.specs.Written.{has_float, items_have_float, members_have_float}
use Rattle.serde_json.specs.View.{items_of}
use Rattle.jwt_base.specs.Members.{is_named, has_named, without, put_some, texts_value}

free_at : (b : Bool) (names : List (List ℕ)) (k : List ℕ) (d : Data) (ms : Members) → b || has_named names ms ≡ false
    → (has_named names ms ≡ false → without names ms ≡ ms) → cond b (without names ms) (member k d (without names ms))
    ≡ member k d ms
free_at true names k d ms e later = absurd (true≢false e)
free_at false names k d ms e later = ap (member k d) (later e)

pub without-free : (names : List (List ℕ)) (ms : Members) → has_named names ms ≡ false → without names ms ≡ ms
without-free names no_members e = refl
without-free names (member k d ms) e = free_at (is_named names k) names k d ms e (without-free names ms)

unnamed_at : (b : Bool) (names : List (List ℕ)) (k : List ℕ) (d : Data) (ms : Members) → is_named names k ≡ b
    → has_named names ms ≡ false → has_named names (cond b ms (member k d ms)) ≡ false
unnamed_at true names k d ms is e = e
unnamed_at false names k d ms is e = rw is e

pub has_named-without : (names : List (List ℕ)) (ms : Members) → has_named names (without names ms) ≡ false
has_named-without names no_members = refl
has_named-without names (member k d ms) = unnamed_at _ names k d (without names ms) refl (has_named-without names ms)

neither : (a b : Bool) → a ≡ false → b ≡ false → a || b ≡ false
neither a b e f = rw (e, f) refl

left_of : (a b : Bool) → a || b ≡ false → a ≡ false
left_of true b e = e
left_of false b e = refl

right_of : (a b : Bool) → a || b ≡ false → b ≡ false
right_of true b e = absurd (true≢false e)
right_of false b e = e

unnamed_put_at : (o : Ordering) (names : List (List ℕ)) (k l : List ℕ) (d a : Data) (ms : Members)
    → is_named names k ≡ false → is_named names l || has_named names ms ≡ false → has_named names (put k d ms) ≡ false
    → has_named names (match_ordering o (member k d (member l a ms)) (member l d ms) (member l a (put k d ms))) ≡ false
unnamed_put_at Less names k l d a ms free e later = neither _ _ free e
unnamed_put_at Equal names k l d a ms free e later = e
unnamed_put_at Greater names k l d a ms free e later = neither _ _ (left_of _ _ e) later

pub has_named-put : (names : List (List ℕ)) (k : List ℕ) (d : Data) (ms : Members) → is_named names k ≡ false
    → has_named names ms ≡ false → has_named names (put k d ms) ≡ false
has_named-put names k d no_members free e = neither _ _ free e
has_named-put names k d (member l a ms) free e = unnamed_put_at (slice_cmp nat_cmp k l) names k l d a ms free e
    (has_named-put names k d ms free (right_of (is_named names l) _ e))

no_float_put_at : (o : Ordering) (k l : List ℕ) (d a : Data) (ms : Members) → has_float d ≡ false
    → has_float a || members_have_float ms ≡ false → members_have_float (put k d ms) ≡ false
    → members_have_float (match_ordering o (member k d (member l a ms)) (member l d ms) (member l a (put k d ms))) ≡ false
no_float_put_at Less k l d a ms none e later = neither _ _ none e
no_float_put_at Equal k l d a ms none e later = neither _ _ none (right_of (has_float a) _ e)
no_float_put_at Greater k l d a ms none e later = neither _ _ (left_of _ _ e) later

pub no_float-put : (k : List ℕ) (d : Data) (ms : Members) → has_float d ≡ false → members_have_float ms ≡ false
    → members_have_float (put k d ms) ≡ false
no_float-put k d no_members none e = neither _ _ none e
no_float-put k d (member l a ms) none e = no_float_put_at (slice_cmp nat_cmp k l) k l d a ms none e
    (no_float-put k d ms none (right_of (has_float a) _ e))

-- a member that may be absent, whose value has no float
pub no_float-put_some : {A : Type 0} (f : A → Data) → ((a : A) → has_float (f a) ≡ false)
    → (k : List ℕ) (o : Option A) (ms : Members) → members_have_float ms ≡ false
    → members_have_float (put_some k (option_map f o) ms) ≡ false
no_float-put_some f none k None ms e = e
no_float-put_some f none k (Some a) ms e = no_float-put k (f a) ms (none a) e

texts_no_float : (ss : List (List ℕ)) → items_have_float (items_of (map string ss)) ≡ false
texts_no_float [] = refl
texts_no_float (s ∷ ss) = texts_no_float ss

-- strings have no float
pub no_float-texts_value : (ss : List (List ℕ)) → has_float (texts_value ss) ≡ false
no_float-texts_value = texts_no_float
