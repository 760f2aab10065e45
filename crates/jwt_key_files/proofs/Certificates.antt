-- A certificate has one key.
use Rattle.std.proofs.Common.{◌≡◌, ◌⊎◌, inl, inr, ℕ, ◌+◌, ◌-◌, ◌<◌, ◌≤◌, List, [], ◌∷◌, ◌++◌, length, get_or, suc}
use Rattle.std.proofs.Common.{add-one, take, drop, refl, ap, sym, subst, ◌∙◌, arith}
use Rattle.std.specs.Prelude.{codes}
use Rattle.std.proofs.lemmas.List.{length-append, take-append-drop, drop_all}
use Rattle.std.proofs.Math.Seq.{take-append_seam, drop-cons}
use Rattle.jwt_base.specs.Kind.{Kind}
use Rattle.jwt_keys.specs.Key.{Key}
use Rattle.jwt_key_files.specs.Der.{element, sequence}
use Rattle.jwt_key_files.specs.Pem.{IsBlock, IsFirst}
use Rattle.jwt_key_files.specs.PublicKeys.{IsInfoOf}
use Rattle.jwt_key_files.specs.Certificates.{IsAfter, serial_to_subject, IsToBeSigned, IsCertificate, IsCertificateOf}
use Rattle.jwt_key_files.specs.Certificates.{IsCertificateRefused, HoldsCertificate, IsCertificatePemOf}
use Rattle.jwt_key_files.proofs.Prefixes.{one_element, one_whole, opened, heads}
use Rattle.jwt_key_files.proofs.OneKey.{one_key}
use Rattle.jwt_key_files.proofs.Blocks.{one_block}
use Rattle.jwt_key_files.proofs.PemKeys.{one_first}

-- elements of tags leave one rest
pub one_rest : (tags bytes r s : List ℕ) → IsAfter tags bytes r → IsAfter tags bytes s → r ≡ s
one_rest [] bytes r s h i = sym h ∙ i
one_rest (tag ∷ tags) bytes r s h i =
    let same = one_element tag h.0 i.0 h.1.0 i.1.0 (sym h.1.1.0 ∙ i.1.1.0) in
    one_rest tags i.1.0 r s (subst (λ (b : List ℕ). IsAfter tags b r) same.rest h.1.1.1) i.1.1.1

-- the loop over tags
pub step_after : (tag : ℕ) (tags bytes content more rest : List ℕ) → bytes ≡ (element tag content ++ more)
    → IsAfter (tag ∷ tags) bytes rest → IsAfter tags more rest
step_after tag tags bytes content more rest e h =
    subst (λ (b : List ℕ). IsAfter tags b rest) (one_element tag h.0 content h.1.0 more (sym h.1.1.0 ∙ e)).rest h.1.1.1

pub on_after : (tags rest content more r : List ℕ) (i : ℕ) → i < length tags
    → rest ≡ (element (get_or tags i 0) content ++ more)
    → IsAfter (drop i tags) rest r → IsAfter (drop (i + 1) tags) more r
on_after tags rest content more r i l e h =
    rw add-one (step_after (get_or tags i 0) (drop (suc i) tags) rest content more r e
    (subst (λ (t : List ℕ). IsAfter t rest r) (drop-cons tags i 0 l) h))

pub back_after : (tags rest content more r : List ℕ) (i : ℕ) → i < length tags
    → rest ≡ (element (get_or tags i 0) content ++ more)
    → IsAfter (drop (i + 1) tags) more r → IsAfter (drop i tags) rest r
back_after tags rest content more r i l e h =
    let g : IsAfter (drop (suc i) tags) more r = rw add-one at h in
    subst (λ (t : List ℕ). IsAfter t rest r) (sym (drop-cons tags i 0 l)) (content, (more, (e, g)))

pub stuck : (tags rest r : List ℕ) (i : ℕ) → i < length tags
    → ((c s : List ℕ) → rest ≡ (element (get_or tags i 0) c ++ s) → ⊥) → IsAfter (drop i tags) rest r → ⊥
stuck tags rest r i l none h =
    let g : IsAfter (get_or tags i 0 ∷ drop (suc i) tags) rest r =
    subst (λ (t : List ℕ). IsAfter t rest r) (drop-cons tags i 0 l) h in
    none g.0 g.1.0 g.1.1.0

pub at_end : (tags rest r : List ℕ) (i : ℕ) → length tags ≤ i → IsAfter (drop i tags) rest r → rest ≡ r
at_end tags rest r i l h = subst (λ (t : List ℕ). IsAfter t rest r) (drop_all i tags l) h

pub end_at : (tags rest : List ℕ) (i : ℕ) → length tags ≤ i → IsAfter (drop i tags) rest rest
end_at tags rest i l = subst (λ (t : List ℕ). IsAfter t rest rest) (sym (drop_all i tags l)) refl

-- the element at the beginning
pub front_element : (b f k r : List ℕ) (t : ℕ) (content : List ℕ) → b ≡ (element t content ++ r)
    → f ≡ take (length b - length r) b → k ≡ drop (length b - length r) b
    → ((c : List ℕ) × (f ≡ element t c)) × (b ≡ (f ++ k))
front_element b f k r t content e h i =
    let n : length b - length r ≡ length (element t content) =
    omega (arith, ap length e, length-append (element t content) r) in
    let g : f ≡ element t content =
    h ∙ ap (λ (m : ℕ). take m b) n ∙ ap (take (length (element t content))) e ∙ take-append_seam (element t content) r in (
      (content, g),
      sym (take-append-drop (length b - length r) b)
          ∙ ap (λ (s : List ℕ). s ++ drop (length b - length r) b) (sym h) ∙ ap (λ (s : List ℕ). f ++ s) (sym i),
    )

-- a version is no serial number
two_starts : (bytes r s : List ℕ) → IsAfter (0xa0 ∷ serial_to_subject) bytes r → IsAfter serial_to_subject bytes s → ⊥
two_starts bytes r s h i = omega (
  arith,
  heads _ _ _ _ (sym (opened 0xa0 h.0 h.1.0) ∙ sym h.1.1.0 ∙ i.1.1.0
      ∙ opened 2 i.0 i.1.0),
)

abbrev pub Fields : (content rest : List ℕ) → Type 0
Fields content rest = IsAfter (0xa0 ∷ serial_to_subject) content rest ⊎ IsAfter serial_to_subject content rest

pub one_fields : (content r s : List ℕ) → Fields content r → Fields content s → r ≡ s
one_fields content r s h i = elim h [
  | inl a ↦ elim i [ inl b ↦ one_rest (0xa0 ∷ serial_to_subject) content r s a b | inr b ↦ absurd (two_starts content r s a b) ]
  | inr a ↦ elim i [ inl b ↦ absurd (two_starts content s r b a) | inr b ↦ one_rest serial_to_subject content r s a b ]
]

-- TBSCertificate
pub no_key_element : (content rest : List ℕ) → Fields content rest → ((c s : List ℕ) → rest ≡ (element 0x30 c ++ s) → ⊥)
    → (info : List ℕ) → IsToBeSigned content info → ⊥
no_key_element content rest h none info x =
    none x.key x.rest (one_fields content rest (info ++ x.rest) h x.fields ∙ ap (λ (s : List ℕ). s ++ x.rest) x.is_element)

pub to_be_signed : (content rest info s : List ℕ) → Fields content rest → ((c : List ℕ) × (info ≡ element 0x30 c))
    → rest ≡ (info ++ s) → IsToBeSigned content info
to_be_signed content rest info s h k e = record { key = k.0; rest = s; is_element = k.1; fields = subst (Fields content) e h }

pub one_to_be_signed : (content a b : List ℕ) → IsToBeSigned content a → IsToBeSigned content b → a ≡ b
one_to_be_signed content a b x y =
    let e = one_fields content (a ++ x.rest) (b ++ y.rest) x.fields y.fields in
    let f : (element 0x30 x.key ++ x.rest) ≡ (element 0x30 y.key ++ y.rest) =
    ap (λ (s : List ℕ). s ++ x.rest) (sym x.is_element) ∙ e ∙ ap (λ (s : List ℕ). s ++ y.rest) y.is_element in
    x.is_element ∙ ap (element 0x30) (one_element 0x30 x.key y.key x.rest y.rest f).content ∙ sym y.is_element

-- Certificate
whole : (b info : List ℕ) (x : IsCertificate b info) → b ≡ element 0x30 (element 0x30 x.content ++ x.signed)
unfolding sequence
whole b info x = x.bytes_are

certificate : (b c s info : List ℕ) → b ≡ element 0x30 (element 0x30 c ++ s) → IsAfter (0x30 ∷ 3 ∷ []) s []
    → IsToBeSigned c info → IsCertificate b info
unfolding sequence
certificate b c s info e h t = record { content = c; signed = s; bytes_are = e; signature = h; holds = t }

pub no_whole_certificate : (b : List ℕ) → ((c : List ℕ) → b ≡ element 0x30 c → ⊥) → (info : List ℕ) → IsCertificate b info → ⊥
no_whole_certificate b none info x = none (element 0x30 x.content ++ x.signed) (whole b info x)

inside : (b w info : List ℕ) → b ≡ element 0x30 w → (x : IsCertificate b info) → w ≡ (element 0x30 x.content ++ x.signed)
inside b w info e x = one_whole 0x30 w (element 0x30 x.content ++ x.signed) (sym e ∙ whole b info x)

pub no_content : (b w : List ℕ) → b ≡ element 0x30 w → ((c s : List ℕ) → w ≡ (element 0x30 c ++ s) → ⊥)
    → (info : List ℕ) → IsCertificate b info → ⊥
no_content b w e none info x = none x.content x.signed (inside b w info e x)

pub no_signature : (b w c s : List ℕ) → b ≡ element 0x30 w → w ≡ (element 0x30 c ++ s)
    → ((r : List ℕ) → IsAfter (0x30 ∷ 3 ∷ []) s r → ⊥)
    → (info : List ℕ) → IsCertificate b info → ⊥
no_signature b w c s e f none info x =
    let same = one_element 0x30 c x.content s x.signed (sym f ∙ inside b w info e x) in
    none [] (subst (λ (t : List ℕ). IsAfter (0x30 ∷ 3 ∷ []) t []) (sym same.rest) x.signature)

pub more_signed : (b w c s r : List ℕ) → b ≡ element 0x30 w → w ≡ (element 0x30 c ++ s) → IsAfter (0x30 ∷ 3 ∷ []) s r
    → 0 < length r
    → (info : List ℕ) → IsCertificate b info → ⊥
more_signed b w c s r e f h l info x =
    let same = one_element 0x30 c x.content s x.signed (sym f ∙ inside b w info e x) in
    let z : r ≡ [] = one_rest (0x30 ∷ 3 ∷ []) s r [] h (subst (λ (t : List ℕ). IsAfter (0x30 ∷ 3 ∷ []) t [])
    (sym same.rest) x.signature) in
    omega (arith, ap length z)

pub no_key_info : (b w c s : List ℕ) → b ≡ element 0x30 w → w ≡ (element 0x30 c ++ s) → ((i : List ℕ) → IsToBeSigned c i → ⊥)
    → (info : List ℕ) → IsCertificate b info → ⊥
no_key_info b w c s e f none info x =
    let same = one_element 0x30 c x.content s x.signed (sym f ∙ inside b w info e x) in
    none info (subst (λ (t : List ℕ). IsToBeSigned t info) (sym same.content) x.holds)

empty : (r : List ℕ) → length r ≤ 0 → r ≡ []
empty [] l = refl
empty (x ∷ r) l = absurd (omega arith)

pub a_certificate : (b w c s r info : List ℕ) → b ≡ element 0x30 w → w ≡ (element 0x30 c ++ s)
    → IsAfter (0x30 ∷ 3 ∷ []) s r → length r ≤ 0
    → IsToBeSigned c info → IsCertificate b info
a_certificate b w c s r info e f h l t =
    certificate b c s info (e ∙ ap (element 0x30) f) (subst (IsAfter (0x30 ∷ 3 ∷ []) s) (empty r l) h) t

pub one_certificate : (b i j : List ℕ) → IsCertificate b i → IsCertificate b j → i ≡ j
one_certificate b i j x y =
    let same = one_element 0x30 x.content y.content x.signed y.signed
    (one_whole 0x30 (element 0x30 x.content ++ x.signed) (element 0x30 y.content ++ y.signed) (sym (whole b i x)
    ∙ whole b j y)) in
    one_to_be_signed y.content i j (subst (λ (t : List ℕ). IsToBeSigned t i) same.content x.holds) y.holds

-- keys
pub one_certified : (b : List ℕ) (k l : Key) → IsCertificateOf b k → IsCertificateOf b l → k ≡ l
one_certified b k l h i =
    one_key i.0 k l (inr (subst (λ (t : List ℕ). IsInfoOf t k) (one_certificate b h.0 i.0 h.1.0 i.1.0) h.1.1)) (inr i.1.1)

pub one_held : (text d e : List ℕ) → HoldsCertificate text d → HoldsCertificate text e → d ≡ e
one_held text d e x y =
    one_block (codes "CERTIFICATE") y.0 d e (subst (λ (b : List ℕ). IsBlock (codes "CERTIFICATE") b d)
    (one_first text x.0 y.0 x.1.0 y.1.0) x.1.1) y.1.1

pub one_certified_pem : (text : List ℕ) (k l : Key) → IsCertificatePemOf text k → IsCertificatePemOf text l → k ≡ l
one_certified_pem text k l h i =
    one_certified i.0 k l (subst (λ (t : List ℕ). IsCertificateOf t k) (one_held text h.0 i.0 h.1.0 i.1.0) h.1.1) i.1.1

pub not_held : (text block : List ℕ) → IsFirst text block → ((d : List ℕ) → IsBlock (codes "CERTIFICATE") block d → ⊥)
    → (der : List ℕ) → HoldsCertificate text der → ⊥
not_held text block f none der h =
    none der (subst (λ (b : List ℕ). IsBlock (codes "CERTIFICATE") b der) (one_first text h.0 block h.1.0 f) h.1.1)

-- the same of the bytes in another place
pub moved_certificate : (a b : List ℕ) (k : Key) → a ≡ b → IsCertificateOf a k → IsCertificateOf b k
moved_certificate a b k e h = subst (λ (s : List ℕ). IsCertificateOf s k) e h

pub moved_refusal : (a b : List ℕ) (x : Kind) → a ≡ b → IsCertificateRefused a x → IsCertificateRefused b x
moved_refusal a b x e h = subst (λ (s : List ℕ). IsCertificateRefused s x) e h
