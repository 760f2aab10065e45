-- The sameness of keys and of sets, with any two floats counted as equal, and the bytes that they
-- feed to a hasher.
use Rattle.std.specs.Prelude.{◌≡◌, ◌&&◌, ◌++◌, Bool}
use Rattle.std.specs.Bool.{Decides}
use Rattle.std.specs.Cmp.{IsEquivalence}
use Rattle.std.specs.Cmp.Lexicographic.{pointwise}
use Rattle.std.specs.Hash.{HashWrites, Alike, slice, on_Alike, items_Alike}
use Rattle.std.proofs.Common.{ap}
use Rattle.jwt_base.specs.equality.Decided.{and_decides, same_as, list_decides, decided_by, fed_by_mark}
use Rattle.jwt_params.specs.equality.CommonSame.{common_eq, common_decides, common_fed}
use Rattle.jwt_params.specs.equality.ParametersFed.{parameters_fed, parameters_marked}
use Rattle.jwt_params.specs.equality.ParametersSame.{parameters_eq, parameters_decides}
use Rattle.jwt_keys.specs.Jwk.{marked_key}
use Rattle.jwt_keys.specs.JwkSet.{marked_set}
use Rattle.jwt_keys.specs.declared.jwk.Jwk.{Jwk}
use Rattle.jwt_keys.specs.declared.jwk_set.JwkSet.{JwkSet}

abbrev pub key_eq : Jwk → Jwk → Bool
key_eq k l = common_eq k.common l.common && parameters_eq k.algorithm l.algorithm

pub key_decides : (k l : Jwk) → Decides (key_eq k l) (marked_key k ≡ marked_key l)
key_decides k l = same_as _ (and_decides (common_eq k.common l.common) _ (common_decides k.common l.common)
    (parameters_decides k.algorithm l.algorithm))
    (λ h i. record { common = h.0 i; algorithm = h.1 i })
    (λ e. (ap (λ x. x.common) e, ap (λ x. x.algorithm) e))

pub key_eq_equiv : IsEquivalence key_eq
key_eq_equiv = decided_by key_eq marked_key key_decides

abbrev pub key_fed : Jwk → HashWrites
key_fed k = common_fed k.common ++ parameters_fed k.algorithm

pub key_marked : (k : Jwk) → key_fed k ≡ key_fed (marked_key k)
key_marked k = ap (λ w. common_fed k.common ++ w) (parameters_marked k.algorithm)

pub key_alike : Alike key_eq key_fed
key_alike = fed_by_mark key_eq marked_key key_decides key_fed key_fed key_marked

abbrev pub set_eq : JwkSet → JwkSet → Bool
set_eq s t = pointwise key_eq s.keys.items t.keys.items

pub set_decides : (s t : JwkSet) → Decides (set_eq s t) (marked_set s ≡ marked_set t)
set_decides s t = list_decides key_eq marked_key key_decides s.keys.items t.keys.items

pub set_eq_equiv : IsEquivalence set_eq
set_eq_equiv = decided_by set_eq marked_set set_decides

abbrev pub set_fed : JwkSet → HashWrites
set_fed s = slice key_fed s.keys.items

pub set_alike : Alike set_eq set_fed
set_alike = on_Alike (λ (s : JwkSet). s.keys.items) (items_Alike key_alike)
