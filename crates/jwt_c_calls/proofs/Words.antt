-- A word of a text is a part of it that is not empty.
use Rattle.std.proofs.Common.{◌≡◌, ◌&&◌, List, ℕ, ap, length, nat_lt}
use Rattle.std.specs.List.{list_any}
use Rattle.std.specs.Str.{bytes_eq}
use Rattle.std.proofs.lemmas.Map.Views.{any-filter_same}
use Rattle.std.proofs.lemmas.Slice.Eq.{bytes_eq-Decides}
use Rattle.jwt_c_calls.specs.Membership.{parts, words}

pub any-words : (word text : List ℕ) → list_any (λ w. bytes_eq w word) (words text)
    ≡ (nat_lt 0 (length word) && list_any (λ w. bytes_eq w word) (parts text))
any-words word text = any-filter_same (λ w. bytes_eq w word) (λ w. nat_lt 0 (length w)) _
    (λ w same. ap (λ v. nat_lt 0 (length v)) ((bytes_eq-Decides w word).0 same)) (parts text)
