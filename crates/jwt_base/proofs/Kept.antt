-- The members that are kept, one after another.
use Rattle.std.proofs.Common.{◌≡◌, ℕ, List, [], ◌∷◌, ◌++◌, Less, Greater, Bool, true, false, cond, string_bytes}
use Rattle.std.proofs.Common.{string_cmp, nat_cmp, refl, ap, ◌∙◌, arith}
use Rattle.std.proofs.lemmas.Cmp.{nat_list_cmp_total}
use Rattle.std.specs.Cmp.Lexicographic.{slice_cmp}
use Rattle.std.specs.List.{AllByRecursion}
use Rattle.std.specs.List.Sorted.{IsStrictlySortedBy}
use Rattle.std.specs.Map.{keys_of}
use Rattle.std.specs.Ordering.{ordering_reverse}
use Rattle.serde_json.proofs.Views.{Entry}
use Rattle.serde_json.specs.Data.{Data, Members, no_members, member, put}
use Rattle.serde_json.specs.View.{view, members_view}
use Rattle.serde_json.specs.Written.{has_float, members_have_float}
use Rattle.jwt_base.specs.Members.{is_named, without}

below_middle : (first : Entry) (es : List Entry) (e : Entry) (more : List Entry)
    → AllByRecursion (λ y. string_cmp first.0 y ≡ Less) (keys_of (es ++ e ∷ more)) → string_cmp first.0 e.0 ≡ Less
below_middle first [] e more h = h.0
below_middle first (x ∷ es) e more h = below_middle first es e more h.1

put_past : (b : Bool) (k l : List ℕ) (d a : Data) (ms ns : Members) → slice_cmp nat_cmp k l ≡ Greater → put k d ms ≡ ns
    → put k d (cond b ms (member l a ms)) ≡ cond b ns (member l a ns)
put_past true k l d a ms ns above e = e
put_past false k l d a ms ns above e = rw above (ap (member l a) e)

-- a kept member that is above those before it goes last
pub kept_last : (names : List (List ℕ)) (done : List Entry) (e : Entry) (more : List Entry)
    → IsStrictlySortedBy string_cmp (keys_of (done ++ e ∷ more)) → is_named names (string_bytes e.0) ≡ false
    → put (string_bytes e.0) (view e.1) (without names (members_view done)) ≡ without names (members_view (done ++ e ∷ []))
unfolding IsStrictlySortedBy
kept_last names [] e more h free = rw free
kept_last names (first ∷ done) e more h free =
    put_past _ (string_bytes e.0) (string_bytes first.0) _ _ _ _ (nat_list_cmp_total.antisymm (string_bytes e.0)
    (string_bytes first.0) ∙ ap ordering_reverse (below_middle first done e more h.0))
    (kept_last names done e more h.1 free)

same_either : (b : Bool) (l : List ℕ) (a : Data) (ms ns : Members) → ms ≡ ns → cond b ms (member l a ms)
    ≡ cond b ns (member l a ns)
same_either b l a ms ns e = ap (λ r. cond b r (member l a r)) e

-- a member of one of the names is left out
pub left_out : (names : List (List ℕ)) (done : List Entry) (e : Entry) → is_named names (string_bytes e.0) ≡ true
    → without names (members_view done) ≡ without names (members_view (done ++ e ∷ []))
left_out names [] e named = rw named
left_out names (first ∷ done) e named = same_either _ _ _ _ _ (left_out names done e named)

float_either : (b : Bool) (l : List ℕ) (a : Data) (ms ns : Members) → members_have_float ms ≡ false
    → members_have_float (cond b ms (member l a ms)) ≡ false → members_have_float ns ≡ false
    → members_have_float (cond b ns (member l a ns)) ≡ false
float_either true l a ms ns e f g = g
float_either false l a ms ns e f g = grind arith

tail_float : (b : Bool) (l : List ℕ) (a : Data) (ms : Members) → members_have_float (cond b ms (member l a ms)) ≡ false
    → members_have_float ms ≡ false
tail_float true l a ms e = e
tail_float false l a ms e = grind arith

lone_float : (b : Bool) (l : List ℕ) (a : Data) → has_float a ≡ false
    → members_have_float (cond b no_members (member l a no_members)) ≡ false
lone_float true l a none = refl
lone_float false l a none = rw none

-- a kept member with no float adds none
pub no_float_last : (names : List (List ℕ)) (done : List Entry) (e : Entry) → has_float (view e.1) ≡ false
    → members_have_float (without names (members_view done)) ≡ false
    → members_have_float (without names (members_view (done ++ e ∷ []))) ≡ false
no_float_last names [] e none before = lone_float (is_named names (string_bytes e.0)) (string_bytes e.0) (view e.1) none
no_float_last names (first ∷ done) e none before =
    let b = is_named names (string_bytes first.0) in
    let k = string_bytes first.0 in
    let d = view first.1 in
    let was = without names (members_view done) in
    let tail = tail_float b k d was before in
    float_either b k d was (without names (members_view (done ++ e ∷ []))) tail before (no_float_last names done e none tail)

float_here : (b : Bool) (l : List ℕ) (a : Data) (ms : Members) → b ≡ false → has_float a ≡ true
    → members_have_float (cond b ms (member l a ms)) ≡ true
float_here true l a ms e f = absurd (cc)
float_here false l a ms e f = rw f

float_later : (b : Bool) (l : List ℕ) (a : Data) (ms : Members) → members_have_float ms ≡ true
    → members_have_float (cond b ms (member l a ms)) ≡ true
float_later true l a ms e = e
float_later false l a ms e = grind arith

-- a float of a kept member is found among all
pub float_within : (names : List (List ℕ)) (done : List Entry) (e : Entry) (more : List Entry)
    → is_named names (string_bytes e.0) ≡ false → has_float (view e.1) ≡ true
    → members_have_float (without names (members_view (done ++ e ∷ more))) ≡ true
float_within names [] e more free f = float_here _ _ _ _ free f
float_within names (first ∷ done) e more free f = float_later (is_named names (string_bytes first.0))
    (string_bytes first.0) (view first.1) (without names (members_view (done ++ e ∷ more)))
    (float_within names done e more free f)

twice_at : (b : Bool) (names : List (List ℕ)) (l : List ℕ) (a : Data) (ms : Members) → is_named names l ≡ b
    → without names ms ≡ ms → without names (cond b ms (member l a ms)) ≡ cond b ms (member l a ms)
twice_at true names l a ms e same = same
twice_at false names l a ms e same = rw e (ap (member l a) same)

-- the members that are left have none of the names
pub without-without : (names : List (List ℕ)) (ms : Members) → without names (without names ms) ≡ without names ms
without-without names no_members = refl
without-without names (member k d ms) = twice_at _ names k d (without names ms) refl (without-without names ms)
