-- Text with escapes, character by character.
use Rattle.std.proofs.Common.{◌≡◌, ℕ, ◌∙◌, List, [], ◌∷◌, ◌++◌, Bool, true, false, length, refl, ap, cond, flat_map, IsUtf8, chars, encode_utf8_all}
use Rattle.std.proofs.lemmas.Str.{chars-nil, chars_past_char, encodes-chars}
use Rattle.std.proofs.lemmas.Bool.{or_parts}
use Rattle.std.specs.Char.{encode_utf8}
use Rattle.std.specs.List.{list_any}
use Rattle.jwt_findings.specs.Escapes.{escaped, is_to_escape, seen}

pub escaped_step : (bs rest : List ℕ) (c : ℕ) → IsUtf8 bs → bs ≡ encode_utf8 c ++ rest → escaped bs ≡ seen c ++ escaped rest
escaped_step bs rest c utf8 parts = ap (flat_map seen) (chars_past_char bs rest c utf8 parts)

pub escaped_empty : (bs : List ℕ) → length bs ≡ 0 → escaped bs ≡ []
escaped_empty [] none = ap (flat_map seen) chars-nil
escaped_empty (b ∷ bs) none = cc

second : (b : Bool) (xs ys : List ℕ) → b ≡ false → cond b xs ys ≡ ys
second true xs ys none = cc
second false xs ys none = refl

all_seen : (cs : List ℕ) → list_any is_to_escape cs ≡ false → flat_map seen cs ≡ encode_utf8_all cs
all_seen [] none = refl
all_seen (c ∷ cs) none =
    let parts = or_parts (is_to_escape c) (list_any is_to_escape cs) none in
    let first : seen c ≡ encode_utf8 c = second (is_to_escape c) _ _ parts.0 in
    ap (λ (xs : List ℕ). xs ++ flat_map seen cs) first ∙ ap (λ (xs : List ℕ). encode_utf8 c ++ xs) (all_seen cs parts.1)

pub escaped_same : (bs : List ℕ) → IsUtf8 bs → list_any is_to_escape (chars bs) ≡ false → escaped bs ≡ bs
escaped_same bs utf8 none = all_seen (chars bs) none ∙ encodes-chars bs utf8
