-- The bytes that free members feed to a hasher: their names.
use Rattle.std.specs.Prelude.{◌≡◌, ◌++◌, ◌&&◌, [], Bool, true, false, refl}
use Rattle.std.specs.Hash.{HashWrites, Alike, str}
use Rattle.std.specs.Str.{bytes_eq}
use Rattle.std.proofs.Common.{sym, ap, true≢false}
use Rattle.std.proofs.lemmas.Slice.Eq.{bytes_eq-Decides}
use Rattle.serde_json.specs.Data.{Members, no_members, member}
use Rattle.jwt_base.specs.DataEq.{data_eq, members_eq, members_marked}

abbrev pub names_fed : Members → HashWrites
names_fed no_members = []
names_fed (member k d ms) = str k ++ names_fed ms

first_true : (a b : Bool) → a && b ≡ true → a ≡ true
first_true true b e = refl
first_true false b e = e

second_true : (a b : Bool) → a && b ≡ true → b ≡ true
second_true true b e = e
second_true false b e = absurd (true≢false (sym e))

fed_alike : (x y : Members) → members_eq x y ≡ true → names_fed x ≡ names_fed y
fed_alike no_members no_members e = refl
fed_alike no_members (member l d ns) e = absurd (true≢false (sym e))
fed_alike (member k d ms) no_members e = absurd (true≢false (sym e))
fed_alike (member k d ms) (member l f ns) e =
    let name : k ≡ l = (bytes_eq-Decides k l).0 (first_true (bytes_eq k l) _ e) in
    let rest = second_true (data_eq d f) _ (second_true (bytes_eq k l) _ e) in
    λ i. str (name i) ++ fed_alike ms ns rest i

pub names_alike : Alike members_eq names_fed
names_alike = record { fed = fed_alike }

-- floats are not fed
pub names_marked : (ms : Members) → names_fed ms ≡ names_fed (members_marked ms)
names_marked no_members = refl
names_marked (member k d ms) = ap (λ w. str k ++ w) (names_marked ms)
