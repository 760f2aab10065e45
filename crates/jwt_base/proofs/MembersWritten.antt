-- The value at a name of an object that was put together.
use Rattle.std.proofs.Common.{◌≡◌, ℕ, List, [], ◌∷◌, Bool, true, false, cond, Option, Some, None, option_map, map}
use Rattle.std.proofs.Common.{bytes_eq, true≢false, Ordering, Less, Equal, Greater, is_eq, nat_cmp, refl, sym, ap, ◌∙◌}
use Rattle.std.specs.Option.{option_or}
use Rattle.std.proofs.lemmas.Slice.Eq.{bytes_eq-Decides}
use Rattle.std.proofs.lemmas.Map.Text.{is_eq-slice_cmp}
use Rattle.std.specs.Cmp.Lexicographic.{slice_cmp}
use Rattle.std.specs.Ordering.{match_ordering}
use Rattle.serde_json.proofs.Views.{get_member-put, get_member-put_other}
use Rattle.serde_json.specs.Data.{Data, string, Members, no_members, member, put}
use Rattle.serde_json.specs.Find.{get_member, as_str}
use Rattle.serde_json.specs.View.{items_of}
use Rattle.jwt_base.specs.Members.{optional, texts, item_texts, texts_value, put_some, is_named, without}

pub same_texts : (xs ys : List ℕ) → bytes_eq xs ys ≡ true → xs ≡ ys
same_texts xs ys e = (bytes_eq-Decides xs ys).0 e

apart_texts : (xs ys : List ℕ) → bytes_eq xs ys ≡ false → xs ≡ ys → ⊥
apart_texts xs ys e same = true≢false (sym ((bytes_eq-Decides xs ys).1 same) ∙ e)

at_put : (b : Bool) (q k : List ℕ) (d : Data) (ms : Members) → bytes_eq q k ≡ b → get_member q (put k d ms)
    ≡ cond b (Some d) (get_member q ms)
at_put true q k d ms e = rw (same_texts q k e) (get_member-put k d ms)
at_put false q k d ms e = get_member-put_other q k d ms (apart_texts q k e)

pub get_member-put_at : (q k : List ℕ) (d : Data) (ms : Members) → get_member q (put k d ms)
    ≡ cond (bytes_eq q k) (Some d) (get_member q ms)
get_member-put_at q k d ms = at_put _ q k d ms refl

cond_same : (b : Bool) (x : Option Data) → x ≡ cond b x x
cond_same true x = refl
cond_same false x = refl

pub get_member-put_some : (q k : List ℕ) (o : Option Data) (ms : Members) → get_member q (put_some k o ms)
    ≡ cond (bytes_eq q k) (option_or o (get_member q ms)) (get_member q ms)
get_member-put_some q k None ms = cond_same _ _
get_member-put_some q k (Some d) ms = get_member-put_at q k d ms

found_at : (o : Ordering) (r s : Option Data) → match_ordering o r s r ≡ cond (is_eq o) s r
found_at Less r s = refl
found_at Equal r s = refl
found_at Greater r s = refl

pub get_member-member : (q k : List ℕ) (d : Data) (ms : Members) → get_member q (member k d ms)
    ≡ cond (bytes_eq q k) (Some d) (get_member q ms)
get_member-member q k d ms = found_at (slice_cmp nat_cmp q k) (get_member q ms) (Some d)
    ∙ ap (λ b. cond b (Some d) (get_member q ms)) (is_eq-slice_cmp q k)

get_member-cond : (b : Bool) (q : List ℕ) (ms ns : Members) → get_member q (cond b ms ns) ≡ cond b (get_member q ms)
    (get_member q ns)
get_member-cond true q ms ns = refl
get_member-cond false q ms ns = refl

left_at : (b c n : Bool) (got w : Option Data) (d : Data) → w ≡ cond n None got → (c ≡ true → n ≡ b)
    → cond b w (cond c (Some d) w) ≡ cond n None (cond c (Some d) got)
left_at true false n got w d e h = e
left_at false false n got w d e h = e
left_at true true true got w d e h = e
left_at true true false got w d e h = absurd (true≢false (sym (h refl)))
left_at false true true got w d e h = absurd (true≢false (h refl))
left_at false true false got w d e h = refl

-- a name finds the same value in the rest, unless it is one of the names
pub get_member-without : (names : List (List ℕ)) (q : List ℕ) (ms : Members) → get_member q (without names ms)
    ≡ cond (is_named names q) None (get_member q ms)
get_member-without names q no_members = cond_same _ _
get_member-without names q (member k d ms) =
    get_member-cond (is_named names k) q _ _
    ∙ ap (cond (is_named names k) (get_member q (without names ms))) (get_member-member q k d (without names ms))
    ∙ left_at (is_named names k) (bytes_eq q k) (is_named names q) (get_member q ms) _ d (get_member-without names q ms)
    (λ e. ap (is_named names) (same_texts q k e))
    ∙ ap (cond (is_named names q) None) (sym (get_member-member q k d ms))

put_out_at : (o : Ordering) (names : List (List ℕ)) (k l : List ℕ) (d a : Data) (ms : Members) → slice_cmp nat_cmp k l
    ≡ o → is_named names k ≡ true → without names (put k d ms) ≡ without names ms
    → without names (match_ordering o (member k d (member l a ms)) (member l d ms) (member l a (put k d ms)))
    ≡ without names (member l a ms)
put_out_at Less names k l d a ms is named later = rw named
put_out_at Equal names k l d a ms is named later =
    let same : k ≡ l = same_texts k l (sym (is_eq-slice_cmp k l) ∙ ap is_eq is) in
    let other : is_named names l ≡ true = ap (is_named names) (sym same) ∙ named in
    rw other
put_out_at Greater names k l d a ms is named later = ap (λ r. cond (is_named names l) r (member l a r)) later

pub without-put : (names : List (List ℕ)) (k : List ℕ) → is_named names k ≡ true → (d : Data) (ms : Members)
    → without names (put k d ms) ≡ without names ms
without-put names k e d no_members = rw e
without-put names k e d (member l a ms) = put_out_at _ names k l d a ms refl e (without-put names k e d ms)

pub without-put_some : (names : List (List ℕ)) (k : List ℕ) → is_named names k ≡ true → (o : Option Data) (ms : Members)
    → without names (put_some k o ms) ≡ without names ms
without-put_some names k e None ms = refl
without-put_some names k e (Some d) ms = without-put names k e d ms

pub optional-string : (o : Option (List ℕ)) → optional as_str (option_map string o) ≡ Some o
optional-string None = refl
optional-string (Some s) = refl

item_texts-items_of : (ss : List (List ℕ)) → item_texts (items_of (map string ss)) ≡ Some ss
item_texts-items_of [] = refl
item_texts-items_of (s ∷ ss) = rw (item_texts-items_of ss)

pub optional-texts_value : (o : Option (List (List ℕ))) → optional texts (option_map texts_value o) ≡ Some o
optional-texts_value None = refl
optional-texts_value (Some ss) = ap (option_map Some) (item_texts-items_of ss)

-- a name that no member has finds nothing
pub absent : (names : List (List ℕ)) (ms : Members) → without names ms ≡ ms → (q : List ℕ) → is_named names q ≡ true
    → get_member q ms ≡ None
absent names ms free q named = ap (get_member q) (sym free) ∙ get_member-without names q ms ∙ rw named

pub or_none : (o : Option Data) → option_or o None ≡ o
or_none None = refl
or_none (Some d) = refl
