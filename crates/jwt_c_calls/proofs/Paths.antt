-- The value at a path, one name after another.
use Rattle.std.proofs.Common.{◌≡◌, ℕ, List, ◌∷◌, Bool, true, false, Option, Some, None, bytes_eq, cond, refl, subst}
use Rattle.std.specs.Prelude.{option_and_then}
use Rattle.json.specs.Find.{get, get_member, later_or}
use Rattle.json.specs.Json.{Json, null, boolean, number, string, array, object, Members, no_members, member}
use Rattle.json.specs.Tree.{HasNumbers, MembersHaveNumbers}
use Rattle.jwt_c_calls.specs.Members.{value_at}

pub one_name : (name : List ℕ) (names : List (List ℕ)) (o : Option Json)
    → option_and_then (value_at (name ∷ names)) o ≡ option_and_then (value_at names) (option_and_then (get name) o)
one_name name names None = refl
one_name name names (Some j) = refl

picked : (j k : Json) (b : Bool) (o : Option Json) → (o ≡ Some k → HasNumbers k) → HasNumbers j
    → later_or o (cond b (Some j) None) ≡ Some k → HasNumbers k
picked j k b (Some i) among own e = among e
picked j k true None among own e = let same : j ≡ k = cc in subst HasNumbers same own
picked j k false None among own e = absurd cc

among : (name : List ℕ) (ms : Members) (k : Json) → MembersHaveNumbers ms → get_member name ms ≡ Some k → HasNumbers k
among name no_members k h e = absurd cc
among name (member l j ms) k h e = picked j k (bytes_eq l name) (get_member name ms) (λ found. among name ms k h.1 found) h.0 e

-- the numbers of a member are numbers if those of the object are
pub of_member : (name : List ℕ) (j k : Json) → HasNumbers j → get name j ≡ Some k → HasNumbers k
of_member name null k h e = absurd cc
of_member name (boolean b) k h e = absurd cc
of_member name (number s) k h e = absurd cc
of_member name (string s) k h e = absurd cc
of_member name (array js) k h e = absurd cc
of_member name (object ms) k h e = among name ms k h e
