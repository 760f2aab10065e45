-- The strings of a list of values.
use Rattle.std.proofs.Common.{◌≡◌, ℕ, Bool, true, false, ◌&&◌, ◌||◌, List, [], ◌∷◌, Option, Some, None, is_some}
use Rattle.std.proofs.Common.{option_map, option_and_then, refl, sym, ap, cond}
use Rattle.std.specs.List.{list_all, list_any, cons_option}
use Rattle.std.specs.Option.{option_map_or}
use Rattle.serde_json.specs.Data.{Data, array}
use Rattle.jwt_validation.specs.declared.claims.Claim.TheVariants as Claim
use Rattle.serde_json.specs.View.{view, items_view}
use Rattle.serde_json.specs.Find.{as_str}
use Rattle.serde_json.specs.declared.value.Value.{Value}
use Rattle.jwt_validation.specs.Claim.{all_texts, texts_in}
use Rattle.jwt_validation.specs.Options.{Texts}
use Rattle.jwt_validation.specs.private_clauses.ClaimsSeen.{texts_among}

abbrev pub are_texts : List Value → Bool
are_texts = list_all (λ v. is_some (as_str (view v)))

abbrev pub some_in : Texts → List Value → Bool
some_in set = list_any (λ v. option_map_or set (as_str (view v)) false)

all_texts_step : (o : Option (List ℕ)) (rest : Option (List (List ℕ))) (b : Bool) (ts : List (List ℕ))
    → rest ≡ cond b (Some ts) None
    → option_and_then (λ s. option_map (λ ss. s ∷ ss) rest) o ≡ cond (is_some o && b) (Some (cons_option o ts)) None
all_texts_step None rest b ts e = refl
all_texts_step (Some s) rest true ts e = ap (option_map (λ ss. s ∷ ss)) e
all_texts_step (Some s) rest false ts e = ap (option_map (λ ss. s ∷ ss)) e

pub all_texts-items : (vs : List Value) → all_texts (items_view vs) ≡ cond (are_texts vs) (Some (texts_among vs)) None
all_texts-items [] = refl
all_texts-items (v ∷ vs) = all_texts_step (as_str (view v)) (all_texts (items_view vs)) (are_texts vs) (texts_among vs)
    (all_texts-items vs)

some_in_step : (set : Texts) (o : Option (List ℕ)) (b : Bool) (ts : List (List ℕ)) → b ≡ list_any set ts
    → (option_map_or set o false || b) ≡ list_any set (cons_option o ts)
some_in_step set None b ts e = e
some_in_step set (Some s) b ts e = ap (λ c. set s || c) e

pub some_in-texts : (set : Texts) (vs : List Value) → some_in set vs ≡ list_any set (texts_among vs)
some_in-texts set [] = refl
some_in-texts set (v ∷ vs) = some_in_step set (as_str (view v)) _ (texts_among vs) (some_in-texts set vs)

pub texts_in-array : (o : Option Data) (v : Value) (vs : List Value) → o ≡ Some (view v)
    → view v ≡ array (items_view vs) → texts_in o ≡ cond (are_texts vs) (Claim.Value (texts_among vs)) Claim.Malformed
texts_in-array o v vs e f = rw (e, f, all_texts-items) (or_malformed (are_texts vs) (texts_among vs))
  where
    or_malformed : (b : Bool) (ts : List (List ℕ)) → option_map_or Claim.Value (cond b (Some ts) None) Claim.Malformed
        ≡ cond b (Claim.Value ts) Claim.Malformed
    or_malformed true ts = refl
    or_malformed false ts = refl

pub texts_in-texts : (o : Option Data) (v : Value) (vs : List Value) → o ≡ Some (view v)
    → view v ≡ array (items_view vs) → are_texts vs ≡ true → Claim.Value (texts_among vs) ≡ texts_in o
texts_in-texts o v vs e f t = sym (rw t at (texts_in-array o v vs e f))

pub texts_in-others : (o : Option Data) (v : Value) (vs : List Value) → o ≡ Some (view v)
    → view v ≡ array (items_view vs) → are_texts vs ≡ false → Claim.Malformed ≡ texts_in o
texts_in-others o v vs e f t = sym (rw t at (texts_in-array o v vs e f))
