-- A part holds no dot, so that a text of three parts is cut in one way.
use Rattle.std.proofs.Common.{◌≡◌, ◌≢◌, ℕ, ◌+◌, ◌/◌, ◌%◌, ◌*◌, zero, suc, List, [], ◌∷◌, ◌++◌, eqb, Contains}
use Rattle.std.proofs.Common.{slice_index, refl, sym, ap, ◌∙◌, arith, if◌then◌else◌}
use Rattle.std.proofs.lemmas.Bool.{eq-eqb}
use Rattle.std.proofs.lemmas.List.Elements.{All-contains, All-nil, All-cons}
use Rattle.std.specs.Prelude.{All}
use Rattle.base64.specs.Rfc4648.{encode_symbols}
use Rattle.jwt_base.specs.Base64Url.{IsPart, url_characters}
use Rattle.jsonwebtoken.specs.Tests.{Parts, Compact, ArePartsOf}
use Rattle.jsonwebtoken.proofs.UniqueParts.{one_way}

abbrev one_dot : ℕ → ℕ
one_dot x = if eqb x 46 then 1 else 0

dots : List ℕ → ℕ
dots [] = 0
dots (x ∷ xs) = one_dot x + dots xs

dots-append : (xs ys : List ℕ) → dots (xs ++ ys) ≡ dots xs + dots ys
unfolding dots
dots-append [] ys = omega arith
dots-append (x ∷ xs) ys = omega (arith, dots-append xs ys)

not_dot : (x : ℕ) → one_dot x ≡ 0 → x ≢ 46
not_dot x e is = let yes = eq-eqb x 46 is in
    let bad : 1 ≡ 0 = sym (ap (λ b. if b then 1 else 0) yes) ∙ e in omega (arith, bad)

-- no character is a dot if there is none
all_free : (xs : List ℕ) → dots xs ≡ 0 → All (λ x. x ≢ 46) xs
unfolding dots
all_free [] e = All-nil (λ x. x ≢ 46)
all_free (x ∷ xs) e = All-cons (λ x. x ≢ 46) x xs (not_dot x (omega arith)) (all_free xs (omega arith))

free : (xs : List ℕ) → dots xs ≡ 0 → ¬ Contains xs 46
free xs e h = All-contains (λ x. x ≢ 46) xs 46 (all_free xs e) h refl

at_free : (xs : List ℕ) → dots xs ≡ 0 → (i : ℕ) → one_dot (slice_index xs i) ≡ 0
unfolding dots
at_free [] e i = refl
at_free (x ∷ xs) e zero = omega arith
at_free (x ∷ xs) e (suc i) = at_free xs (omega arith) i

no_dots : (t m : List ℕ) → dots t ≡ 0 → dots (encode_symbols t m) ≡ 0
unfolding encode_symbols dots
no_dots t [] h = refl
no_dots t (a ∷ []) h = omega (arith, at_free t h (a / 4), at_free t h (a % 4 * 16))
no_dots t (a ∷ b ∷ []) h = omega (arith, at_free t h (a / 4), at_free t h (a % 4 * 16 + b / 16), at_free t h (b % 16 * 4))
no_dots t (a ∷ b ∷ c ∷ rest) h =
    omega (
      arith,
      at_free t h (a / 4),
      at_free t h (a % 4 * 16 + b / 16),
      at_free t h (b % 16 * 4 + c / 64),
      at_free t h (c % 64),
      no_dots t rest h,
    )

url_free : dots url_characters ≡ 0
unfolding dots
url_free = refl

part_dots : (text b : List ℕ) → IsPart text b → dots text ≡ 0
part_dots text b p = rw p.1 (no_dots url_characters b url_free)

joined : Parts → List ℕ
joined c = c.header ++ 46 ∷ (c.payload ++ 46 ∷ c.signature)

dots-joined : (c : Parts) → dots (joined c) ≡ dots c.header + dots c.payload + dots c.signature + 2
unfolding joined dots
dots-joined c = omega (
  arith,
  dots-append c.header (46 ∷ (c.payload ++ 46 ∷ c.signature)),
  dots-append c.payload (46 ∷ c.signature),
)

-- the three parts are the cut of their text
pub are_parts : (c : Parts) (h p s : List ℕ) → IsPart c.header h → IsPart c.payload p → IsPart c.signature s
    → ArePartsOf (c.header ++ 46 ∷ (c.payload ++ 46 ∷ c.signature)) c
are_parts c h p s ph pp ps = record {
  joined = refl;
  payload = free c.payload (part_dots c.payload p pp);
  signature = free c.signature (part_dots c.signature s ps);
}

-- and a text that is cut in parts has these three
pub same_as_parts : (c d : Parts) (h p s : List ℕ) → ArePartsOf (c.header ++ 46 ∷ (c.payload ++ 46 ∷ c.signature)) d
    → IsPart d.header h → IsPart d.payload p → IsPart d.signature s → d ≡ c
unfolding joined
same_as_parts c d h p s cut ph pp ps =
    let same : joined c ≡ joined d = cut.joined in
    let counted : dots (joined c) ≡ dots (joined d) = ap dots same in
    let zero_p : dots c.payload ≡ 0 = omega (
      arith,
      counted,
      dots-joined c,
      dots-joined d,
      part_dots d.header h ph,
      part_dots d.payload p pp,
      part_dots d.signature s ps,
    ) in
    let zero_s : dots c.signature ≡ 0 = omega (
      arith,
      counted,
      dots-joined c,
      dots-joined d,
      part_dots d.header h ph,
      part_dots d.payload p pp,
      part_dots d.signature s ps,
    ) in
    one_way (Compact (joined c)) d c cut (record {
      joined = refl;
      payload = free c.payload zero_p;
      signature = free c.signature zero_s;
    })
