-- The characters of a text in base64, its digits, and the bytes that these stand for.
use Rattle.std.proofs.Common.{◌≡◌, ℕ, ◌+◌, ◌-◌, ◌%◌, ◌<◌, ◌≤◌, ◌==◌, Bool, true, false, not, cond, List, [], ◌∷◌, ◌++◌}
use Rattle.std.proofs.Common.{length, take, drop, get_or, map, filter, refl, ap, sym, subst, ◌∙◌, arith, replicate}
use Rattle.std.proofs.lemmas.List.{append-nil, map-append, take-append-drop, length-append, length-drop, length-replicate}
use Rattle.std.proofs.lemmas.List.Elements.{filter_more}
use Rattle.std.proofs.Math.Seq.{take-append_seam}
use Rattle.std.specs.List.{suffix_len}
use Rattle.base64.specs.Rfc4648.{unpadded_len}
use Rattle.base64.proofs.RoundTrip.{length-encode_symbols}
use Rattle.jwt_base.specs.Base64Url.{IsPart, url_characters}
use Rattle.jwt_base.proofs.Parts.{one_part}
use Rattle.jwt_secrets.specs.Base64Texts.{is_white, of_url, characters, unpadded, StandsFor}

-- the characters of one more byte of the text
kept : (white : Bool) (x : ℕ) → map of_url (cond (not white) (x ∷ []) []) ≡ cond white [] (of_url x ∷ [])
kept true x = refl
kept false x = refl

pub characters_none : characters [] ≡ []
unfolding characters
characters_none = refl

one_more : (text : List ℕ) (i : ℕ) → i < length text
    → characters (take (i + 1) text) ≡ characters (take i text) ++ cond (is_white (get_or text i 0)) []
    (of_url (get_or text i 0) ∷ [])
unfolding characters
one_more text i within =
    let p : ℕ → Bool = λ byte. not (is_white byte) in
    let x = get_or text i 0 in
    let so_far : List ℕ = filter p (take i text) in
    ap (map of_url) (filter_more p text i 0 within) ∙ map-append of_url so_far (cond (not (is_white x)) (x ∷ []) [])
    ∙ ap (λ (end : List ℕ). map of_url so_far ++ end) (kept (is_white x) x)

pub more_white : (text : List ℕ) (i : ℕ) → i < length text → is_white (get_or text i 0) ≡ true
    → characters (take (i + 1) text) ≡ characters (take i text)
more_white text i within white =
    one_more text i within ∙ ap (λ (b : Bool). characters (take i text) ++ cond b [] (of_url (get_or text i 0) ∷ []))
    white ∙ append-nil (characters (take i text))

pub more_kept : (text : List ℕ) (i : ℕ) → i < length text → is_white (get_or text i 0) ≡ false
    → characters (take (i + 1) text) ≡ characters (take i text) ++ (of_url (get_or text i 0) ∷ [])
more_kept text i within white =
    one_more text i within ∙ ap (λ (b : Bool). characters (take i text) ++ cond b [] (of_url (get_or text i 0) ∷ [])) white

-- the characters before the padding
pub before_padding : (cs : List ℕ) (n : ℕ) → n ≤ length cs
    → n + suffix_len (λ byte. byte == 0x3d) cs ≡ length cs + suffix_len (λ byte. byte == 0x3d) (take n cs)
    → suffix_len (λ byte. byte == 0x3d) (take n cs) ≡ 0 → take n cs ≡ unpadded cs
unfolding unpadded
before_padding cs n within sum none = ap (λ (m : ℕ). take m cs) (omega arith)

-- the digits, made up to groups, have as many bytes at least as were added
enough : (text all : List ℕ) (k : ℕ) → k < 3 → k ≤ length text → length text % 4 ≡ 0 → IsPart text all → k ≤ length all
enough text all k few fits groups part =
    let n : length text ≡ unpadded_len (length all) = ap length part.1 ∙ length-encode_symbols url_characters all in
    omega arith

pub stand_for : (digits all : List ℕ) (k : ℕ) → k < 3 → (length digits + k) % 4 ≡ 0 → IsPart (digits ++ replicate k 0x41) all
    → StandsFor digits (take (length all - k) all)
stand_for digits all k few groups part =
    let text = digits ++ replicate k 0x41 in
    let long : length text ≡ length digits + k =
    omega (arith, length-append digits (replicate k 0x41), length-replicate {A = ℕ} k 0x41) in
    let fits : k ≤ length all = enough text all k few (omega arith) (ap (λ (n : ℕ). n % 4) long ∙ groups) part in
    let more : List ℕ = drop (length all - k) all in
    let count : length more ≡ k = omega (arith, length-drop (length all - k) all) in
    record {
      more = more;
      few = omega (arith, count);
      groups = ap (λ (n : ℕ). (length digits + n) % 4) count ∙ groups;
      part = subst (λ (b : List ℕ). IsPart (digits ++ replicate (length more) 0x41) b)
          (sym (take-append-drop (length all - k) all))
          (subst (λ (n : ℕ). IsPart (digits ++ replicate n 0x41) all) (sym count) part);
    }

-- digits that stand for no bytes
pub no_count : (digits : List ℕ) → ((k : ℕ) → k < 3 → (length digits + k) % 4 ≡ 0 → ⊥) → (b : List ℕ) → StandsFor digits b → ⊥
no_count digits none b s = none (length s.more) s.few s.groups

same_count : (n j k : ℕ) → j < 3 → k < 3 → (n + j) % 4 ≡ 0 → (n + k) % 4 ≡ 0 → j ≡ k
same_count n j k a b p q = omega arith

pub no_digits : (digits : List ℕ) (k : ℕ) → k < 3 → (length digits + k) % 4 ≡ 0
    → ((b : List ℕ) → IsPart (digits ++ replicate k 0x41) b → ⊥) → (b : List ℕ) → StandsFor digits b → ⊥
no_digits digits k few groups none b s =
    let e : length s.more ≡ k = same_count (length digits) (length s.more) k s.few few s.groups groups in
    none (b ++ s.more) (subst (λ (n : ℕ). IsPart (digits ++ replicate n 0x41) (b ++ s.more)) e s.part)

-- digits stand for one list of bytes
front : (a b r s : List ℕ) → length r ≡ length s → a ++ r ≡ b ++ s → a ≡ b
front a b r s n e =
    let m : length a ≡ length b = omega (arith, ap length e, length-append a r, length-append b s) in
    sym (take-append_seam a r) ∙ ap (take (length a)) e ∙ ap (λ (n : ℕ). take n (b ++ s)) m ∙ take-append_seam b s

pub one_list : (digits a b : List ℕ) → StandsFor digits a → StandsFor digits b → a ≡ b
one_list digits a b s t =
    let e : length s.more ≡ length t.more = same_count (length digits) (length s.more) (length t.more) s.few t.few
    s.groups t.groups in
    front a b s.more t.more e
    (one_part (digits ++ replicate (length t.more) 0x41) (a ++ s.more) (b ++ t.more)
    (subst (λ (n : ℕ). IsPart (digits ++ replicate n 0x41) (a ++ s.more)) e s.part) t.part)
