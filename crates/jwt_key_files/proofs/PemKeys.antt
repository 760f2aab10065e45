-- A block has one label, and a text one first block and one key.
use Rattle.std.proofs.Common.{◌≡◌, inl, inr, ℕ, List, ◌++◌, get_or, ap, sym, subst, ◌∙◌, arith}
use Rattle.std.specs.Prelude.{codes}
use Rattle.std.proofs.lemmas.Bool.{cases_lt}
use Rattle.std.proofs.lemmas.List.{append_cancel_left}
use Rattle.jwt_base.specs.Kind.{Kind}
use Rattle.jwt_base.specs.Kind as kind
use Rattle.jwt_keys.specs.Key.{Key}
use Rattle.jwt_key_files.specs.Pem.{IsBlock, IsFirst, Begins}
use Rattle.jwt_key_files.specs.PublicKeys.{subject_public_key_info, IsRsaKey, IsInfoOf, IsPublicKey, NamesAnother}
use Rattle.jwt_key_files.specs.PublicKeys.{IsRefused, private_key_text}
use Rattle.jwt_key_files.specs.PemKeys.{IsBlockOf, IsPemOf, IsPrivateLabel, IsLabelled, NamesPrivate, IsBlockRefused}
use Rattle.jwt_key_files.specs.PemKeys.{IsInfoRefused}
use Rattle.jwt_key_files.proofs.Blocks.{one_block}
use Rattle.jwt_key_files.proofs.Parts.{no_two, not_private_info}
use Rattle.jwt_key_files.proofs.OneKey.{one_key}

-- two texts differ at a place
differ : (i : ℕ) (b x y : List ℕ) → b ≡ x → b ≡ y → (get_or x i 0 ≡ get_or y i 0 → ⊥) → ⊥
differ i b x y h k d = d (ap (λ (s : List ℕ). get_or s i 0) (sym h ∙ k))

pub not_both : (block d e : List ℕ) → IsBlock (codes "PUBLIC KEY") block d → IsBlock (codes "RSA PUBLIC KEY") block e → ⊥
not_both block d e x y = differ 0 block _ _ x.opens y.opens (λ f. omega (arith, f))

public_private : (block label r s : List ℕ) → block ≡ codes "PUBLIC KEY" ++ r → IsPrivateLabel label → block ≡ label ++ s → ⊥
public_private block label r s h p k = elim p [
  | inl a ↦ let f : block ≡ codes "PRIVATE KEY" ++ s = rw a at k in differ 1 block _ _ h f (λ q. omega (arith, q))
  | inr u ↦ elim u [
    | inl a ↦ let f : block ≡ codes "ENCRYPTED PRIVATE KEY" ++ s = rw a at k in differ 0 block _ _ h f (λ q. omega (arith, q))
    | inr v ↦ elim v [
      | inl a ↦ let f : block ≡ codes "RSA PRIVATE KEY" ++ s = rw a at k in differ 0 block _ _ h f (λ q. omega (arith, q))
      | inr a ↦ let f : block ≡ codes "EC PRIVATE KEY" ++ s = rw a at k in differ 0 block _ _ h f (λ q. omega (arith, q))
    ]
  ]
]

rsa_private : (block label r s : List ℕ) → block ≡ codes "RSA PUBLIC KEY" ++ r → IsPrivateLabel label → block ≡ label ++ s → ⊥
rsa_private block label r s h p k = elim p [
  | inl a ↦ let f : block ≡ codes "PRIVATE KEY" ++ s = rw a at k in differ 0 block _ _ h f (λ q. omega (arith, q))
  | inr u ↦ elim u [
    | inl a ↦ let f : block ≡ codes "ENCRYPTED PRIVATE KEY" ++ s = rw a at k in differ 0 block _ _ h f (λ q. omega (arith, q))
    | inr v ↦ elim v [
      | inl a ↦ let f : block ≡ codes "RSA PRIVATE KEY" ++ s = rw a at k in differ 5 block _ _ h f (λ q. omega (arith, q))
      | inr a ↦ let f : block ≡ codes "EC PRIVATE KEY" ++ s = rw a at k in differ 0 block _ _ h f (λ q. omega (arith, q))
    ]
  ]
]

public_only : (block d : List ℕ) → IsBlock (codes "PUBLIC KEY") block d → NamesPrivate block → ⊥
public_only block d x p = public_private block p.label _ _ x.opens p.is_private p.labelled.named

rsa_only : (block d : List ℕ) → IsBlock (codes "RSA PUBLIC KEY") block d → NamesPrivate block → ⊥
rsa_only block d x p = rsa_private block p.label _ _ x.opens p.is_private p.labelled.named

-- labels
pub not_labelled : (label b r : List ℕ) → b ≡ label ++ r → ((s : List ℕ) → r ≡ codes "-----" ++ s → ⊥) → IsLabelled label b → ⊥
not_labelled label b r h none x = none x.rest (append_cancel_left label r (codes "-----" ++ x.rest) (sym h ∙ x.named))

pub labelled : (label b r s : List ℕ) → b ≡ label ++ r → r ≡ codes "-----" ++ s → IsLabelled label b
labelled label b r s h k = record { rest = s; named = h ∙ ap (λ (t : List ℕ). label ++ t) k }

pub not_private : (block : List ℕ) → (IsLabelled (codes "PRIVATE KEY") block → ⊥)
    → (IsLabelled (codes "ENCRYPTED PRIVATE KEY") block → ⊥)
    → (IsLabelled (codes "RSA PRIVATE KEY") block → ⊥) → (IsLabelled (codes "EC PRIVATE KEY") block → ⊥)
    → NamesPrivate block → ⊥
not_private block f g h i p = elim p.is_private [
  | inl a ↦ f (subst (λ (l : List ℕ). IsLabelled l block) a p.labelled)
  | inr u ↦ elim u [
    | inl a ↦ g (subst (λ (l : List ℕ). IsLabelled l block) a p.labelled)
    | inr v ↦ elim v [
      | inl a ↦ h (subst (λ (l : List ℕ). IsLabelled l block) a p.labelled)
      | inr a ↦ i (subst (λ (l : List ℕ). IsLabelled l block) a p.labelled)
    ]
  ]
]

-- the refusals of bytes that are no SubjectPublicKeyInfo, and of those that are
pub no_info_key : (b : List ℕ) (x : Kind) → x ≡ kind.InvalidKeyFormat
    → ((a k : List ℕ) → b ≡ subject_public_key_info a k → ⊥) → IsInfoRefused b x
no_info_key b x h none = record { none = λ key i. none _ _ i.bytes_are; why = inr (h, λ n. none _ _ n.bytes_are) }

pub refused_info : (b a o : List ℕ) (x : Kind) → b ≡ subject_public_key_info a o → IsRefused b x → IsInfoRefused b x
refused_info b a o x h r = record {
  none = λ key i. r.none key (inr i);
  why = elim r.why [
    | inl p ↦ absurd (not_private_info b a o h p.1)
    | inr w ↦ elim w [ inl v ↦ inl v | inr v ↦ inr (v.0, v.2) ]
  ];
}

pub info_only : (b a o : List ℕ) (key : Key) → b ≡ subject_public_key_info a o → IsPublicKey b key → IsInfoOf b key
info_only b a o key h p = elim p [ inl r ↦ absurd (no_two b a o _ _ h r.1.1.3) | inr i ↦ i ]

-- the refusals of blocks
pub refused_public : (block d : List ℕ) (x : Kind) → IsBlock (codes "PUBLIC KEY") block d → IsInfoRefused d x
    → IsBlockRefused block x
refused_public block d x h r = record {
  none = λ der key p. elim p [
    | inl q ↦ r.none key (subst (λ (s : List ℕ). IsInfoOf s key) (one_block (codes "PUBLIC KEY") block der d q.0 h) q.1)
    | inr q ↦ not_both block d der h q.0
  ];
  why = elim r.why [
    | inl w ↦ inr (inl (w.0, record { der = d; holds = h; another = w.1 }))
    | inr w ↦ inr (inr (
      w.0,
      public_only block d h,
      λ a. w.1 (subst NamesAnother (one_block (codes "PUBLIC KEY") block a.der d a.holds h) a.another),
    ))
  ];
}

pub refused_rsa_block : (block d : List ℕ) (x : Kind) → IsBlock (codes "RSA PUBLIC KEY") block d → x ≡ kind.InvalidKeyFormat
    → ((k : Key) → IsRsaKey d k → ⊥) → IsBlockRefused block x
refused_rsa_block block d x h e none = record {
  none = λ der key p. elim p [
    | inl q ↦ not_both block der d q.0 h
    | inr q ↦ none key (subst (λ (s : List ℕ). IsRsaKey s key) (one_block (codes "RSA PUBLIC KEY") block der d q.0 h) q.1)
  ];
  why = inr (inr (e, rsa_only block d h, λ a. not_both block a.der d a.holds h));
}

pub refused_private : (block : List ℕ) (x : Kind) → x ≡ kind.Provider private_key_text
    → ((d : List ℕ) → IsBlock (codes "PUBLIC KEY") block d → ⊥)
    → ((d : List ℕ) → IsBlock (codes "RSA PUBLIC KEY") block d → ⊥) → NamesPrivate block → IsBlockRefused block x
refused_private block x e f g p =
    record { none = λ der key q. elim q [ inl r ↦ f der r.0 | inr r ↦ g der r.0 ]; why = inl (e, p) }

pub refused_other : (block : List ℕ) (x : Kind) → x ≡ kind.InvalidKeyFormat
    → ((d : List ℕ) → IsBlock (codes "PUBLIC KEY") block d → ⊥)
    → ((d : List ℕ) → IsBlock (codes "RSA PUBLIC KEY") block d → ⊥) → (NamesPrivate block → ⊥) → IsBlockRefused block x
refused_other block x e f g p =
    record {
      none = λ der key q. elim q [ inl r ↦ f der r.0 | inr r ↦ g der r.0 ];
      why = inr (inr (e, p, λ a. f a.der a.holds));
    }

-- a text has one first block
one_place : (text a b : List ℕ) (x : IsFirst text a) (y : IsFirst text b) → x.place ≡ y.place
one_place text a b x y = elim (cases_lt x.place y.place) [
  | inl l ↦ absurd (y.first x.place l a x.begins)
  | inr g ↦ elim (cases_lt y.place x.place) [
    | inl l ↦ absurd (x.first y.place l b y.begins)
    | inr h ↦ omega arith
  ]
]

pub one_first : (text a b : List ℕ) → IsFirst text a → IsFirst text b → a ≡ b
one_first text a b x y =
    let f : Begins text y.place a = subst (λ (k : ℕ). Begins text k a) (one_place text a b x y) x.begins in
    append_cancel_left (codes "-----BEGIN ") a b (sym f.mark ∙ y.begins.mark)

-- and one key
key_of_one : (block d e : List ℕ) (k l : Key) → IsBlockOf block d k → IsBlockOf block e l → k ≡ l
key_of_one block d e k l p q = elim p [
  | inl a ↦ elim q [
    | inl b ↦ one_key e k l (inr (subst (λ (s : List ℕ). IsInfoOf s k)
        (one_block (codes "PUBLIC KEY") block d e a.0 b.0) a.1)) (inr b.1)
    | inr b ↦ absurd (not_both block d e a.0 b.0)
  ]
  | inr a ↦ elim q [
    | inl b ↦ absurd (not_both block e d b.0 a.0)
    | inr b ↦ one_key e k l (inl (subst (λ (s : List ℕ). IsRsaKey s k)
        (one_block (codes "RSA PUBLIC KEY") block d e a.0 b.0) a.1)) (inl b.1)
  ]
]

pub one_pem_key : (text b d : List ℕ) (key : Key) → IsFirst text b → IsBlockOf b d key → (k : Key) → IsPemOf text k → k ≡ key
one_pem_key text b d key f h k p =
    key_of_one b p.der d k key (subst (λ (s : List ℕ). IsBlockOf s p.der k) (one_first text p.block b p.first f) p.is_key) h

-- the same of the bytes in another place
pub moved_refusal : (a b : List ℕ) (x : Kind) → a ≡ b → IsInfoRefused a x → IsInfoRefused b x
moved_refusal a b x e h = subst (λ (s : List ℕ). IsInfoRefused s x) e h

pub moved_key : (a b : List ℕ) (k : Key) → a ≡ b → IsInfoOf a k → IsInfoOf b k
moved_key a b k e h = subst (λ (s : List ℕ). IsInfoOf s k) e h
