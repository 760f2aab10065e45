use Rattle.std.proofs.Common.{◌≡◌, ℕ, ◌||◌, List, [], ◌∷◌, refl, String, Global}
use Rattle.std.specs.List.{AllZip, list_any}
use Rattle.std.specs.Str.{bytes_eq}
use Rattle.std.specs.String.{string_bytes}
use Rattle.jwt_validation.proofs.validation.copied_set.Goals as goal

contains-clone : (ks ls : List (String Global)) → AllZip (λ x y. string_bytes y ≡ string_bytes x) ks ls → (bs : List ℕ)
    → list_any (λ k. bytes_eq bs (string_bytes k)) ls ≡ list_any (λ k. bytes_eq bs (string_bytes k)) ks
contains-clone [] [] h bs = refl
contains-clone [] (y ∷ ls) h bs = absurd h
contains-clone (x ∷ ks) [] h bs = absurd h
contains-clone (x ∷ ks) (y ∷ ls) h bs = λ i. bytes_eq bs (h.0 i) || contains-clone ks ls h.1 bs i

pub returns-clause-ok : goal.returns-clause-ok
returns-clause-ok c = λ i bs. contains-clone c.args.set.now.keys c.in_ok-copy.copy.keys c.in_ok-copy.ensures.cases bs i
