-- A value that was read has as many members as were written if and only if no object has a name twice.
use Rattle.std.proofs.Common.{◌≡◌, ◌≢◌, ◌⊎◌, inl, inr, ℕ, zero, suc, ◌+◌, ◌<◌, List, [], ◌∷◌, Option, Some, None, option_map}
use Rattle.std.proofs.Common.{option_and_then, Ordering, Less, Equal, Greater, nat_cmp, is_eq, refl, sym, ap, ◌∙◌, subst, arith}
use Rattle.std.proofs.Common.{length, get_or, false}
use Rattle.std.proofs.lemmas.Bool.{true≢false}
use Rattle.std.proofs.lemmas.Cmp.{nat_list_cmp_total, tied_itself}
use Rattle.std.proofs.lemmas.List.Kept.{AllPairs-cons}
use Rattle.std.proofs.lemmas.Map.Text.{is_eq-slice_cmp}
use Rattle.std.proofs.lemmas.Slice.Eq.{bytes_eq-Decides}
use Rattle.std.specs.Cmp.Lexicographic.{slice_cmp}
use Rattle.std.specs.Ordering.{match_ordering, ordering_reverse}
use Rattle.std.specs.Prelude.{⊤, ◌↔◌}
use Rattle.json.specs.Json as json
use Rattle.json.specs.Strict.{keys, AreDistinct, HasUniqueKeys, ItemsHaveUniqueKeys, MembersHaveUniqueKeys}
use Rattle.serde_json.specs.Data.{Data, number, array, object, Items, item, Members, no_members, member, put}
use Rattle.serde_json.specs.Read.{number_of, of_json, of_items, of_members}
use Rattle.jwt_unique_names.specs.private_clauses.Counts.{count, items_count, members_count}
use Rattle.jwt_unique_names.proofs.Tokens.{written, items_written, members_written}

abbrev cmp : List ℕ → List ℕ → Ordering
cmp a b = slice_cmp nat_cmp a b

same_text : (xs : List ℕ) → cmp xs xs ≡ Equal
same_text xs = tied_itself nat_list_cmp_total xs

equal_text : (k l : List ℕ) → cmp k l ≡ Equal → k ≡ l
equal_text k l e = (bytes_eq-Decides k l).0 (sym (is_eq-slice_cmp k l) ∙ ap is_eq e)

apart : (k l : List ℕ) (o : Ordering) → cmp k l ≡ o → is_eq o ≡ false → k ≢ l
apart k l o e f same = true≢false (ap is_eq (sym (same_text l) ∙ subst (λ x. cmp x l ≡ o) same e) ∙ f)

-- ---- the names of members

-- each name is above k
abbrev Above : List ℕ → Members → Type 0
Above k no_members = ⊤
Above k (member l e ms) = (cmp k l ≡ Less) × Above k ms

abbrev Sorted : Members → Type 0
Sorted no_members = ⊤
Sorted (member l e ms) = Above l ms × Sorted ms

-- no name is k
abbrev Absent : List ℕ → Members → Type 0
Absent k no_members = ⊤
Absent k (member l e ms) = (k ≢ l) × Absent k ms

Above-lower : (k l : List ℕ) (ms : Members) → cmp k l ≡ Less → Above l ms → Above k ms
Above-lower k l no_members e h = tt
Above-lower k l (member m d ms) e h = (nat_list_cmp_total.trans k l m e h.0, Above-lower k l ms e h.1)

Absent-above : (k : List ℕ) (ms : Members) → Above k ms → Absent k ms
Absent-above k no_members h = tt
Absent-above k (member l e ms) h = (apart k l Less h.0 refl, Absent-above k ms h.1)

Above-put_at : (o : Ordering) (q k l : List ℕ) (d e : Data) (ms : Members) → cmp q k ≡ Less → Above q (member l e ms)
    → Above q (put k d ms)
    → Above q (match_ordering o (member k d (member l e ms)) (member l d ms) (member l e (put k d ms)))
Above-put_at Less q k l d e ms less h later = (less, h)
Above-put_at Equal q k l d e ms less h later = h
Above-put_at Greater q k l d e ms less h later = (h.0, later)

Above-put : (q k : List ℕ) (d : Data) (ms : Members) → cmp q k ≡ Less → Above q ms → Above q (put k d ms)
Above-put q k d no_members less h = (less, tt)
Above-put q k d (member l e ms) less h = Above-put_at (cmp k l) q k l d e ms less h (Above-put q k d ms less h.1)

Sorted-put_at : (o : Ordering) (k l : List ℕ) (d e : Data) (ms : Members) → cmp k l ≡ o → Sorted (member l e ms)
    → Sorted (put k d ms)
    → Sorted (match_ordering o (member k d (member l e ms)) (member l d ms) (member l e (put k d ms)))
Sorted-put_at Less k l d e ms is h later = ((is, Above-lower k l ms is h.0), h)
Sorted-put_at Equal k l d e ms is h later = h
Sorted-put_at Greater k l d e ms is h later =
    (Above-put l k d ms (nat_list_cmp_total.antisymm l k ∙ ap ordering_reverse is) h.0, later)

Sorted-put : (k : List ℕ) (d : Data) (ms : Members) → Sorted ms → Sorted (put k d ms)
Sorted-put k d no_members h = (tt, tt)
Sorted-put k d (member l e ms) h = Sorted-put_at (cmp k l) k l d e ms refl h (Sorted-put k d ms h.1)

Absent-put_at : (o : Ordering) (q k l : List ℕ) (d e : Data) (ms : Members) → cmp k l ≡ o
    → (Absent q (put k d ms) ↔ ((q ≢ k) × Absent q ms))
    → Absent q (match_ordering o (member k d (member l e ms)) (member l d ms) (member l e (put k d ms))) ↔ ((q ≢ k) × Absent q (member l e ms))
Absent-put_at Less q k l d e ms is later = (λ h. h, λ h. h)
Absent-put_at Equal q k l d e ms is later =
    let same = equal_text k l is in
    (λ h. (λ f. h.0 (f ∙ same), h), λ h. h.1)
Absent-put_at Greater q k l d e ms is later = (λ h. let x = later.0 h.1 in (x.0, (h.0, x.1)), λ h. (h.1.0, later.1 (h.0, h.1.1)))

-- what is not there after a put was not there, and was not put
Absent-put : (q k : List ℕ) (d : Data) (ms : Members) → Absent q (put k d ms) ↔ ((q ≢ k) × Absent q ms)
Absent-put q k d no_members = (λ h. h, λ h. h)
Absent-put q k d (member l e ms) = Absent-put_at (cmp k l) q k l d e ms refl (Absent-put q k d ms)

-- ---- counts that reach w if and only if U holds, and are less otherwise

abbrev Weighed : ℕ → ℕ → Type 0 → Type 0
Weighed n w U = ((n ≡ w) × U) ⊎ ((n < w) × (U → ⊥))

both : (m n v w : ℕ) (U V : Type 0) → Weighed m v U → Weighed n w V → Weighed (m + n) (v + w) (U × V)
both m n v w U V (inl a) (inl b) = inl (omega (arith, a.0, b.0), (a.1, b.1))
both m n v w U V (inl a) (inr b) = inr (omega (arith, a.0, b.0), λ h. b.1 h.1)
both m n v w U V (inr a) (inl b) = inr (omega (arith, a.0, b.0), λ h. a.1 h.0)
both m n v w U V (inr a) (inr b) = inr (omega (arith, a.0, b.0), λ h. a.1 h.0)

same_fact : (n w : ℕ) (U V : Type 0) → (U ↔ V) → Weighed n w U → Weighed n w V
same_fact n w U V f (inl a) = inl (a.0, f.0 a.1)
same_fact n w U V f (inr a) = inr (a.0, λ h. a.1 (f.1 h))

-- a put adds a member if and only if its name is not there
put_at : (o : Ordering) (k l : List ℕ) (d e : Data) (ms : Members) → cmp k l ≡ o → Above l ms
    → Weighed (members_count (put k d ms)) (suc (count d + members_count ms)) (Absent k ms)
    → Weighed (members_count (match_ordering o (member k d (member l e ms)) (member l d ms) (member l e (put k d ms)))) (suc (count d + members_count (member l e ms))) (Absent k (member l e ms))
put_at Less k l d e ms is above later =
    inl (omega arith, (apart k l Less is refl, Absent-above k ms (Above-lower k l ms is above)))
put_at Equal k l d e ms is above later = inr (omega arith, λ h. h.0 (equal_text k l is))
put_at Greater k l d e ms is above (inl a) = inl (omega (arith, a.0), (apart k l Greater is refl, a.1))
put_at Greater k l d e ms is above (inr a) = inr (omega (arith, a.0), λ h. a.1 h.1)

Weighed-put : (k : List ℕ) (d : Data) (ms : Members) → Sorted ms
    → Weighed (members_count (put k d ms)) (suc (count d + members_count ms)) (Absent k ms)
Weighed-put k d no_members h = inl (omega arith, tt)
Weighed-put k d (member l e ms) h = put_at (cmp k l) k l d e ms refl h.0 (Weighed-put k d ms h.1)

-- ---- lists of names

abbrev NotIn : List ℕ → List (List ℕ) → Type 0
NotIn k [] = ⊤
NotIn k (q ∷ ks) = (k ≢ q) × NotIn k ks

abbrev Distinct : List (List ℕ) → Type 0
Distinct [] = ⊤
Distinct (k ∷ ks) = NotIn k ks × Distinct ks

-- none of the names is in the members
abbrev AllAbsent : List (List ℕ) → Members → Type 0
AllAbsent [] ms = ⊤
AllAbsent (k ∷ ks) ms = Absent k ms × AllAbsent ks ms

AllAbsent-none : (ks : List (List ℕ)) → AllAbsent ks no_members
AllAbsent-none [] = tt
AllAbsent-none (k ∷ ks) = (tt, AllAbsent-none ks)

AllAbsent-put : (ks : List (List ℕ)) (k : List ℕ) (d : Data) (ms : Members)
    → AllAbsent ks (put k d ms) ↔ (NotIn k ks × AllAbsent ks ms)
AllAbsent-put [] k d ms = (λ h. (tt, tt), λ h. tt)
AllAbsent-put (q ∷ ks) k d ms =
    let first = Absent-put q k d ms in
    let more = AllAbsent-put ks k d ms in (
      λ h. let a = first.0 h.0 in let b = more.0 h.1 in ((λ e. a.0 (sym e), b.0), (a.1, b.1)),
      λ h. (first.1 (λ e. h.0.0 (sym e), h.1.0), more.1 (h.0.1, h.1.1)),
    )

NotIn-place : (k : List ℕ) (ks : List (List ℕ)) → NotIn k ks → (i : ℕ) (d : List ℕ) → i < length ks → k ≢ get_or ks i d
NotIn-place k [] h i d within = absurd (omega arith)
NotIn-place k (q ∷ ks) h zero d within = h.0
NotIn-place k (q ∷ ks) h (suc i) d within = NotIn-place k ks h.1 i d (omega arith)

NotIn-from_places : (k : List ℕ) (ks : List (List ℕ)) → ((i : ℕ) (d : List ℕ) → i < length ks → k ≢ get_or ks i d) → NotIn k ks
NotIn-from_places k [] h = tt
NotIn-from_places k (q ∷ ks) h = (h 0 [] (omega arith), NotIn-from_places k ks (λ i d within. h (suc i) d (omega arith)))

AreDistinct-to : (ks : List (List ℕ)) → Distinct ks → AreDistinct ks
AreDistinct-to [] h = λ i j d less within. absurd (omega arith)
AreDistinct-to (k ∷ ks) h = AllPairs-cons (λ a b. a ≢ b) k ks (NotIn-place k ks h.0) (AreDistinct-to ks h.1)

AreDistinct-from : (ks : List (List ℕ)) → AreDistinct ks → Distinct ks
AreDistinct-from [] h = tt
AreDistinct-from (k ∷ ks) h = (
  NotIn-from_places k ks (λ j d within. h 0 (suc j) d (omega arith) (omega arith)),
  AreDistinct-from ks (λ i j d less within. h (suc i) (suc j) d (omega arith) (omega arith)),
)

-- ---- a value

abbrev AtSome : {A : Type 0} → (A → Type 0) → Option A → Type 0
AtSome P None = ⊤
AtSome P (Some a) = P a

AtSome-map : {A B : Type 0} (P : A → Type 0) (Q : B → Type 0) (f : A → B) → ((a : A) → P a → Q (f a)) → (o : Option A)
    → AtSome P o → AtSome Q (option_map f o)
AtSome-map P Q f h None x = tt
AtSome-map P Q f h (Some a) x = h a x

AtSome-and_then : {A B : Type 0} (P : A → Type 0) (Q : B → Type 0) (f : A → Option B) → ((a : A) → P a → AtSome Q (f a))
    → (o : Option A) → AtSome P o → AtSome Q (option_and_then f o)
AtSome-and_then P Q f h None x = tt
AtSome-and_then P Q f h (Some a) x = h a x

any : {A : Type 0} (o : Option A) → AtSome (λ _. ⊤) o
any None = tt
any (Some a) = tt

-- the members that go in are all new, and their values have unique keys
abbrev AllNew : json.Members → Members → Type 0
AllNew ms found = (Distinct (keys ms) × AllAbsent (keys ms) found) × MembersHaveUniqueKeys ms

abbrev ReadOf : json.Json → Data → Type 0
ReadOf j d = Weighed (count d) (written j) (HasUniqueKeys j)

abbrev ItemsReadOf : json.Items → Items → Type 0
ItemsReadOf js ds = Weighed (items_count ds) (items_written js) (ItemsHaveUniqueKeys js)

abbrev MembersReadOf : json.Members → Members → Members → Type 0
MembersReadOf ms found ds = Weighed (members_count ds) (members_written ms + members_count found) (AllNew ms found)

-- one member more
one_more : (k : List ℕ) (j : json.Json) (ms : json.Members) (d : Data) (found ds : Members)
    → Weighed (members_count (put k d found)) (suc (count d + members_count found)) (Absent k found)
    → ReadOf j d → MembersReadOf ms (put k d found) ds → MembersReadOf (json.member k j ms) found ds
one_more k j ms d found ds (inl p) (inl a) (inl b) =
    let x = (AllAbsent-put (keys ms) k d found).0 b.1.0.1 in
    inl (omega (arith, p.0, a.0, b.0), (((x.0, b.1.0.0), (p.1, x.1)), (a.1, b.1.1)))
one_more k j ms d found ds (inl p) (inl a) (inr b) =
    inr (omega (arith, p.0, a.0, b.0), λ h. b.1 ((h.0.0.1, (AllAbsent-put (keys ms) k d found).1 (h.0.0.0, h.0.1.1)), h.1.1))
one_more k j ms d found ds (inl p) (inr a) (inl b) = inr (omega (arith, p.0, a.0, b.0), λ h. a.1 h.1.0)
one_more k j ms d found ds (inl p) (inr a) (inr b) = inr (omega (arith, p.0, a.0, b.0), λ h. a.1 h.1.0)
one_more k j ms d found ds (inr p) (inl a) (inl b) = inr (omega (arith, p.0, a.0, b.0), λ h. p.1 h.0.1.0)
one_more k j ms d found ds (inr p) (inl a) (inr b) = inr (omega (arith, p.0, a.0, b.0), λ h. p.1 h.0.1.0)
one_more k j ms d found ds (inr p) (inr a) (inl b) = inr (omega (arith, p.0, a.0, b.0), λ h. p.1 h.0.1.0)
one_more k j ms d found ds (inr p) (inr a) (inr b) = inr (omega (arith, p.0, a.0, b.0), λ h. p.1 h.0.1.0)

-- an object, whose members go into none
from_none : (ms : json.Members) (ds : Members) → MembersReadOf ms no_members ds → ReadOf (json.object ms) (object ds)
from_none ms ds (inl a) = inl (omega (arith, a.0), (AreDistinct-to (keys ms) a.1.0.0, a.1.1))
from_none ms ds (inr a) = inr (omega (arith, a.0), λ h. a.1 ((AreDistinct-from (keys ms) h.0, AllAbsent-none (keys ms)), h.1))

weaker : (k : List ℕ) (j : json.Json) (ms : json.Members) (d : Data) (found : Members) → ReadOf j d
    → Weighed (members_count (put k d found)) (suc (count d + members_count found)) (Absent k found)
    → (o : Option Members) → AtSome (MembersReadOf ms (put k d found)) o → AtSome (MembersReadOf (json.member k j ms) found) o
weaker k j ms d found a p None x = tt
weaker k j ms d found a p (Some ds) x = one_more k j ms d found ds p a x

mutual
  reads : (j : json.Json) → AtSome (ReadOf j) (of_json j)
  reads json.null = inl (refl, tt)
  reads (json.boolean b) = inl (refl, tt)
  reads (json.number s) = AtSome-map (λ _. ⊤) (ReadOf (json.number s)) number (λ n x. inl (refl, tt)) (number_of s) (any _)
  reads (json.string s) = inl (refl, tt)
  reads (json.array js) = AtSome-map (ItemsReadOf js) (ReadOf (json.array js)) array (λ ds x. x) (of_items js) (items_read js)
  reads (json.object ms) =
      AtSome-map (MembersReadOf ms no_members) (ReadOf (json.object ms)) object (from_none ms) (of_members ms no_members) (members_read ms no_members tt)

  items_read : (js : json.Items) → AtSome (ItemsReadOf js) (of_items js)
  items_read json.no_items = inl (refl, tt)
  items_read (json.item j js) =
      AtSome-and_then (ReadOf j) (ItemsReadOf (json.item j js)) _
      (λ d x. AtSome-map (ItemsReadOf js) (ItemsReadOf (json.item j js)) (item d) (λ ds y. both (count d) (items_count ds) (written j) (items_written js) (HasUniqueKeys j) (ItemsHaveUniqueKeys js) x y) (of_items js) (items_read js))
      (of_json j) (reads j)

  members_read : (ms : json.Members) (found : Members) → Sorted found → AtSome (MembersReadOf ms found) (of_members ms found)
  members_read json.no_members found h = inl (omega arith, ((tt, tt), tt))
  members_read (json.member k j ms) found h =
      AtSome-and_then (ReadOf j) (MembersReadOf (json.member k j ms) found) _
      (λ d x. weaker k j ms d found x (Weighed-put k d found h) (of_members ms (put k d found)) (members_read ms (put k d found) (Sorted-put k d found h)))
      (of_json j) (reads j)

-- the value has all members that were written, or fewer
pub count-of_json : (j : json.Json) (d : Data) → of_json j ≡ Some d → Weighed (count d) (written j) (HasUniqueKeys j)
count-of_json j d e = subst (AtSome (ReadOf j)) e (reads j)
