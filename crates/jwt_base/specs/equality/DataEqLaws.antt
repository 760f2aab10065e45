-- `data_eq` decides whether two values are the same except for their floats.
use Rattle.std.specs.Prelude.{◌≡◌, ◌&&◌, Bool, true, false, refl}
use Rattle.std.specs.Bool.{Decides}
use Rattle.std.specs.Cmp.{IsEquivalence, unsigned_Decides, signed_Decides, booleans_Decides}
use Rattle.std.proofs.Common.{sym, ap, true≢false}
use Rattle.std.proofs.lemmas.Slice.Eq.{bytes_eq-Decides}
use Rattle.serde_json.specs.Data.{Num, unsigned, negative, float, Data, null, boolean, number, string, array, object}
use Rattle.serde_json.specs.Data.{Items, no_items, item, Members, no_members, member}
use Rattle.std.specs.Str.{bytes_eq}
use Rattle.jwt_base.specs.equality.Decided.{decided_by}
use Rattle.jwt_base.specs.DataEq.{num_eq, data_eq, items_eq, members_eq, num_marked, marked, items_marked, members_marked}

both_true : (a b : Bool) → a && b ≡ true → (a ≡ true) × (b ≡ true)
both_true true b e = (refl, e)
both_true false b e = absurd (true≢false (sym e))

join_true : (a b : Bool) → a ≡ true → b ≡ true → a && b ≡ true
join_true true b e f = f
join_true false b e f = absurd (true≢false (sym e))

num_decides : (x y : Num) → Decides (num_eq x y) (num_marked x ≡ num_marked y)
num_decides (unsigned n) (unsigned n2) = (λ e. ap unsigned ((unsigned_Decides n n2).0 e), λ e. (unsigned_Decides n n2).1 (cc))
num_decides (unsigned n) (negative z2) = (λ e. absurd (cc), λ e. absurd (cc))
num_decides (unsigned n) (float x2) = (λ e. absurd (cc), λ e. absurd (cc))
num_decides (negative z) (unsigned n2) = (λ e. absurd (cc), λ e. absurd (cc))
num_decides (negative z) (negative z2) = (λ e. ap negative ((signed_Decides z z2).0 e), λ e. (signed_Decides z z2).1 (cc))
num_decides (negative z) (float x2) = (λ e. absurd (cc), λ e. absurd (cc))
num_decides (float x) (unsigned n2) = (λ e. absurd (cc), λ e. absurd (cc))
num_decides (float x) (negative z2) = (λ e. absurd (cc), λ e. absurd (cc))
num_decides (float x) (float x2) = (λ e. refl, λ e. refl)

mutual
  pub data_decides : (x y : Data) → Decides (data_eq x y) (marked x ≡ marked y)
  data_decides null null = (λ e. refl, λ e. refl)
  data_decides null (boolean b2) = (λ e. absurd (cc), λ e. absurd (cc))
  data_decides null (number n2) = (λ e. absurd (cc), λ e. absurd (cc))
  data_decides null (string s2) = (λ e. absurd (cc), λ e. absurd (cc))
  data_decides null (array ds2) = (λ e. absurd (cc), λ e. absurd (cc))
  data_decides null (object ms2) = (λ e. absurd (cc), λ e. absurd (cc))
  data_decides (boolean b) null = (λ e. absurd (cc), λ e. absurd (cc))
  data_decides (boolean b) (boolean b2) = (λ e. ap boolean ((booleans_Decides b b2).0 e), λ e. (booleans_Decides b b2).1 (cc))
  data_decides (boolean b) (number n2) = (λ e. absurd (cc), λ e. absurd (cc))
  data_decides (boolean b) (string s2) = (λ e. absurd (cc), λ e. absurd (cc))
  data_decides (boolean b) (array ds2) = (λ e. absurd (cc), λ e. absurd (cc))
  data_decides (boolean b) (object ms2) = (λ e. absurd (cc), λ e. absurd (cc))
  data_decides (number n) null = (λ e. absurd (cc), λ e. absurd (cc))
  data_decides (number n) (boolean b2) = (λ e. absurd (cc), λ e. absurd (cc))
  data_decides (number n) (number n2) = (λ e. ap number ((num_decides n n2).0 e), λ e. (num_decides n n2).1 (cc))
  data_decides (number n) (string s2) = (λ e. absurd (cc), λ e. absurd (cc))
  data_decides (number n) (array ds2) = (λ e. absurd (cc), λ e. absurd (cc))
  data_decides (number n) (object ms2) = (λ e. absurd (cc), λ e. absurd (cc))
  data_decides (string s) null = (λ e. absurd (cc), λ e. absurd (cc))
  data_decides (string s) (boolean b2) = (λ e. absurd (cc), λ e. absurd (cc))
  data_decides (string s) (number n2) = (λ e. absurd (cc), λ e. absurd (cc))
  data_decides (string s) (string s2) = (λ e. ap string ((bytes_eq-Decides s s2).0 e), λ e. (bytes_eq-Decides s s2).1 (cc))
  data_decides (string s) (array ds2) = (λ e. absurd (cc), λ e. absurd (cc))
  data_decides (string s) (object ms2) = (λ e. absurd (cc), λ e. absurd (cc))
  data_decides (array ds) null = (λ e. absurd (cc), λ e. absurd (cc))
  data_decides (array ds) (boolean b2) = (λ e. absurd (cc), λ e. absurd (cc))
  data_decides (array ds) (number n2) = (λ e. absurd (cc), λ e. absurd (cc))
  data_decides (array ds) (string s2) = (λ e. absurd (cc), λ e. absurd (cc))
  data_decides (array ds) (array ds2) = (λ e. ap array ((items_decides ds ds2).0 e), λ e. (items_decides ds ds2).1 (cc))
  data_decides (array ds) (object ms2) = (λ e. absurd (cc), λ e. absurd (cc))
  data_decides (object ms) null = (λ e. absurd (cc), λ e. absurd (cc))
  data_decides (object ms) (boolean b2) = (λ e. absurd (cc), λ e. absurd (cc))
  data_decides (object ms) (number n2) = (λ e. absurd (cc), λ e. absurd (cc))
  data_decides (object ms) (string s2) = (λ e. absurd (cc), λ e. absurd (cc))
  data_decides (object ms) (array ds2) = (λ e. absurd (cc), λ e. absurd (cc))
  data_decides (object ms) (object ms2) = (λ e. ap object ((members_decides ms ms2).0 e), λ e. (members_decides ms ms2).1 (cc))

  items_decides : (x y : Items) → Decides (items_eq x y) (items_marked x ≡ items_marked y)
  items_decides no_items no_items = (λ e. refl, λ e. refl)
  items_decides no_items (item e es) = (λ e. absurd (cc), λ e. absurd (cc))
  items_decides (item d ds) no_items = (λ e. absurd (cc), λ e. absurd (cc))
  items_decides (item d ds) (item e es) = (
    λ h. let p = both_true _ _ h in λ i. item ((data_decides d e).0 p.0 i) ((items_decides ds es).0 p.1 i),
    λ h. join_true _ _ ((data_decides d e).1 (cc)) ((items_decides ds es).1 (cc)),
  )

  pub members_decides : (x y : Members) → Decides (members_eq x y) (members_marked x ≡ members_marked y)
  members_decides no_members no_members = (λ e. refl, λ e. refl)
  members_decides no_members (member l e ns) = (λ e. absurd (cc), λ e. absurd (cc))
  members_decides (member k d ms) no_members = (λ e. absurd (cc), λ e. absurd (cc))
  members_decides (member k d ms) (member l e ns) = (
    λ h. let p = both_true (bytes_eq k l) _ h in let q = both_true (data_eq d e) _ p.1 in
        λ i. member ((bytes_eq-Decides k l).0 p.0 i) ((data_decides d e).0 q.0 i) ((members_decides ms ns).0 q.1 i),
    λ h. join_true _ _ ((bytes_eq-Decides k l).1 (cc))
        (join_true _ _ ((data_decides d e).1 (cc)) ((members_decides ms ns).1 (cc))),
  )

pub members_eq_equiv : IsEquivalence members_eq
members_eq_equiv = decided_by members_eq members_marked members_decides
