-- The numbers of an RSAPublicKey, and the parts of a SubjectPublicKeyInfo.
use Rattle.std.proofs.Common.{◌≡◌, inl, inr, ℕ, ◌<◌, ◌≤◌, List, [], ◌∷◌, ◌++◌, length, get_or, ap, sym, ◌∙◌, arith}
use Rattle.std.specs.Prelude.{slice_index}
use Rattle.std.proofs.lemmas.Bool.{cases_lt}
use Rattle.std.proofs.lemmas.Bool.Decides.{nat_tests}
use Rattle.std.proofs.lemmas.List.{append-nil}
use Rattle.jwt_key_files.specs.Der.{element, signed, integer, sequence, bit_string, IsPositive}
use Rattle.jwt_key_files.specs.PublicKeys.{rsa_public_key, subject_public_key_info, IsPrivateKey}
use Rattle.jwt_key_files.proofs.Prefixes.{one_element, one_whole, opened, heads, tails, SameContent}

pub low : (n : List ℕ) → slice_index n 0 < 0x80 → signed n ≡ n
unfolding signed
low n h = grind (arith, nat_tests)

pub high : (n : List ℕ) → 0x80 ≤ slice_index n 0 → signed n ≡ (0 ∷ n)
unfolding signed
high n h = grind (arith, nat_tests)

first_is : (m : ℕ) (n r : List ℕ) → n ≡ (m ∷ r) → slice_index n 0 ≡ m
first_is m n r e = ap (λ (x : List ℕ). get_or x 0 0) e

empty_first : (n : List ℕ) → n ≡ [] → slice_index n 0 ≡ 0
empty_first n e = ap (λ (x : List ℕ). get_or x 0 0) e

-- contents that are no positive number's
pub unsigned_nil : (c : List ℕ) → c ≡ [] → (n : List ℕ) → IsPositive n → c ≡ signed n → ⊥
unsigned_nil c h n p e = elim (cases_lt (slice_index n 0) 0x80) [
  | inl a ↦ omega (arith, empty_first n (sym (e ∙ low n a) ∙ h))
  | inr a ↦ let f : (0 ∷ n) ≡ [] = sym (e ∙ high n a) ∙ h in cc
]

pub unsigned_negative : (m : ℕ) (r c : List ℕ) → c ≡ (m ∷ r) → 0x80 ≤ m → (n : List ℕ) → IsPositive n → c ≡ signed n → ⊥
unsigned_negative m r c h l n p e = elim (cases_lt (slice_index n 0) 0x80) [
  | inl a ↦ omega (arith, first_is m n r (sym (e ∙ low n a) ∙ h))
  | inr a ↦ let f : (0 ∷ n) ≡ (m ∷ r) = sym (e ∙ high n a) ∙ h in omega (arith, heads _ _ _ _ f)
]

pub unsigned_zero : (m : ℕ) (r c : List ℕ) → c ≡ (m ∷ r) → m ≤ 0 → r ≡ [] → (n : List ℕ) → IsPositive n → c ≡ signed n → ⊥
unsigned_zero m r c h l q n p e = elim (cases_lt (slice_index n 0) 0x80) [
  | inl a ↦ omega (arith, first_is m n r (sym (e ∙ low n a) ∙ h))
  | inr a ↦ let f : (0 ∷ n) ≡ (m ∷ r) = sym (e ∙ high n a) ∙ h in omega (arith, empty_first n (tails _ _ _ _ f ∙ q))
]

pub unsigned_longer : (m k : ℕ) (r q c : List ℕ) → c ≡ (m ∷ r) → m ≤ 0 → r ≡ (k ∷ q) → k < 0x80 → (n : List ℕ)
    → IsPositive n → c ≡ signed n → ⊥
unsigned_longer m k r q c h l i b n p e = elim (cases_lt (slice_index n 0) 0x80) [
  | inl a ↦ omega (arith, first_is m n r (sym (e ∙ low n a) ∙ h))
  | inr a ↦ let f : (0 ∷ n) ≡ (m ∷ r) = sym (e ∙ high n a) ∙ h in omega (arith, first_is k n q (tails _ _ _ _ f ∙ i))
]

-- contents that are
pub unsigned_low : (m : ℕ) (r c : List ℕ) → c ≡ (m ∷ r) → m < 0x80 → 0 < m → IsPositive c × (c ≡ signed c)
unsigned_low m r c h l p = (omega (arith, first_is m c r h), sym (low c (omega (arith, first_is m c r h))))

pub unsigned_high : (m k : ℕ) (r q c : List ℕ) → c ≡ (m ∷ r) → m ≤ 0 → r ≡ (k ∷ q) → 0x80 ≤ k → IsPositive r × (c ≡ signed r)
unsigned_high m k r q c h l i b =
    let z : m ≡ 0 = omega arith in
    let f : c ≡ (0 ∷ r) = h ∙ ap (λ (x : ℕ). x ∷ r) z in
    (omega (arith, first_is k r q i), f ∙ sym (high r (omega (arith, first_is k r q i))))

-- an INTEGER is an element
opens : (n s b : List ℕ) → b ≡ (integer n ++ s) → b ≡ (element 2 (signed n) ++ s)
unfolding integer
opens n s b e = e

closes : (n s b : List ℕ) → b ≡ (element 2 (signed n) ++ s) → b ≡ (integer n ++ s)
unfolding integer
closes n s b e = e

pub no_integer : (b : List ℕ) → ((c s : List ℕ) → b ≡ (element 2 c ++ s) → ⊥) → (n s : List ℕ) → IsPositive n
    → b ≡ (integer n ++ s) → ⊥
no_integer b none n s p e = none (signed n) s (opens n s b e)

pub no_number : (b c r : List ℕ) → b ≡ (element 2 c ++ r) → ((n : List ℕ) → IsPositive n → c ≡ signed n → ⊥)
    → (n s : List ℕ) → IsPositive n → b ≡ (integer n ++ s) → ⊥
no_number b c r h none n s p e = none n p (one_element 2 c (signed n) r s (sym h ∙ opens n s b e)).content

pub a_number : (b c r n : List ℕ) → b ≡ (element 2 c ++ r) → c ≡ signed n → b ≡ (integer n ++ r)
a_number b c r n h e = closes n r b (h ∙ ap (λ (x : List ℕ). element 2 x ++ r) e)

one_integer : (m n r s : List ℕ) → (integer m ++ r) ≡ (integer n ++ s) → SameContent (signed m) (signed n) r s
unfolding integer
one_integer m n r s e = one_element 2 (signed m) (signed n) r s e

-- RSAPublicKey
rsa_whole : (b n e : List ℕ) → b ≡ rsa_public_key n e → b ≡ element 0x30 (integer n ++ integer e)
unfolding rsa_public_key sequence
rsa_whole b n e h = h

rsa_content : (b c n e : List ℕ) → b ≡ element 0x30 c → b ≡ rsa_public_key n e → c ≡ (integer n ++ integer e)
rsa_content b c n e h i = one_whole 0x30 c (integer n ++ integer e) (sym h ∙ rsa_whole b n e i)

pub no_rsa : (b : List ℕ) → ((c : List ℕ) → b ≡ element 0x30 c → ⊥) → (n e : List ℕ) → IsPositive n → IsPositive e
    → b ≡ rsa_public_key n e → ⊥
no_rsa b none n e p q h = none (integer n ++ integer e) (rsa_whole b n e h)

pub no_modulus : (b c : List ℕ) → b ≡ element 0x30 c → ((n s : List ℕ) → IsPositive n → c ≡ (integer n ++ s) → ⊥)
    → (n e : List ℕ) → IsPositive n → IsPositive e → b ≡ rsa_public_key n e → ⊥
no_modulus b c h none n e p q i = none n (integer e) p (rsa_content b c n e h i)

after_modulus : (b c m r n e : List ℕ) → b ≡ element 0x30 c → c ≡ (integer m ++ r) → b ≡ rsa_public_key n e
    → r ≡ (integer e ++ [])
after_modulus b c m r n e h i j =
    (one_integer m n r (integer e) (sym i ∙ rsa_content b c n e h j)).rest ∙ sym (append-nil (integer e))

pub no_exponent : (b c m r : List ℕ) → b ≡ element 0x30 c → c ≡ (integer m ++ r)
    → ((n s : List ℕ) → IsPositive n → r ≡ (integer n ++ s) → ⊥)
    → (n e : List ℕ) → IsPositive n → IsPositive e → b ≡ rsa_public_key n e → ⊥
no_exponent b c m r h i none n e p q j = none e [] q (after_modulus b c m r n e h i j)

pub no_end : (b c m r x s : List ℕ) → b ≡ element 0x30 c → c ≡ (integer m ++ r) → r ≡ (integer x ++ s) → 0 < length s
    → (n e : List ℕ) → IsPositive n → IsPositive e → b ≡ rsa_public_key n e → ⊥
no_end b c m r x s h i k l n e p q j =
    let g = one_integer x e s [] (sym k ∙ after_modulus b c m r n e h i j) in
    omega (arith, ap length g.rest)

ends : (a s : List ℕ) → length s ≤ 0 → (a ++ s) ≡ a
ends a [] h = append-nil a
ends a (x ∷ s) h = absurd (omega arith)

a_sequence : (b n e : List ℕ) → b ≡ element 0x30 (integer n ++ integer e) → b ≡ rsa_public_key n e
unfolding rsa_public_key sequence
a_sequence b n e h = h

pub an_rsa_key : (b c n r e s : List ℕ) → b ≡ element 0x30 c → c ≡ (integer n ++ r) → r ≡ (integer e ++ s)
    → length s ≤ 0 → b ≡ rsa_public_key n e
an_rsa_key b c n r e s h i k l =
    let f : c ≡ (integer n ++ integer e) = i ∙ ap (λ (x : List ℕ). integer n ++ x) (k ∙ ends (integer e) s l) in
    a_sequence b n e (h ∙ ap (element 0x30) f)

-- SubjectPublicKeyInfo
info_whole : (b a k : List ℕ) → b ≡ subject_public_key_info a k → b ≡ element 0x30 (element 0x30 a ++ element 3 (0 ∷ k))
unfolding subject_public_key_info sequence bit_string
info_whole b a k h = h

whole_info : (b a k : List ℕ) → b ≡ element 0x30 (element 0x30 a ++ element 3 (0 ∷ k)) → b ≡ subject_public_key_info a k
unfolding subject_public_key_info sequence bit_string
whole_info b a k h = h

info_content : (b c a k : List ℕ) → b ≡ element 0x30 c → b ≡ subject_public_key_info a k
    → c ≡ (element 0x30 a ++ element 3 (0 ∷ k))
info_content b c a k h i = one_whole 0x30 c (element 0x30 a ++ element 3 (0 ∷ k)) (sym h ∙ info_whole b a k i)

pub no_info : (b : List ℕ) → ((c : List ℕ) → b ≡ element 0x30 c → ⊥) → (a k : List ℕ) → b ≡ subject_public_key_info a k → ⊥
no_info b none a k h = none (element 0x30 a ++ element 3 (0 ∷ k)) (info_whole b a k h)

pub no_algorithm : (b c : List ℕ) → b ≡ element 0x30 c → ((d s : List ℕ) → c ≡ (element 0x30 d ++ s) → ⊥)
    → (a k : List ℕ) → b ≡ subject_public_key_info a k → ⊥
no_algorithm b c h none a k i = none a (element 3 (0 ∷ k)) (info_content b c a k h i)

after_algorithm : (b c d r a k : List ℕ) → b ≡ element 0x30 c → c ≡ (element 0x30 d ++ r) → b ≡ subject_public_key_info a k
    → SameContent d a r (element 3 (0 ∷ k))
after_algorithm b c d r a k h i j = one_element 0x30 d a r (element 3 (0 ∷ k)) (sym i ∙ info_content b c a k h j)

pub no_bits : (b c d r : List ℕ) → b ≡ element 0x30 c → c ≡ (element 0x30 d ++ r) → ((x : List ℕ) → r ≡ element 3 x → ⊥)
    → (a k : List ℕ) → b ≡ subject_public_key_info a k → ⊥
no_bits b c d r h i none a k j = none (0 ∷ k) (after_algorithm b c d r a k h i j).rest

bits_are : (b c d r x a k : List ℕ) → b ≡ element 0x30 c → c ≡ (element 0x30 d ++ r) → r ≡ element 3 x
    → b ≡ subject_public_key_info a k → x ≡ (0 ∷ k)
bits_are b c d r x a k h i l j = one_whole 3 x (0 ∷ k) (sym l ∙ (after_algorithm b c d r a k h i j).rest)

pub no_octets : (b c d r x : List ℕ) → b ≡ element 0x30 c → c ≡ (element 0x30 d ++ r) → r ≡ element 3 x → x ≡ []
    → (a k : List ℕ) → b ≡ subject_public_key_info a k → ⊥
no_octets b c d r x h i l m a k j = let f : [] ≡ (0 ∷ k) = sym m ∙ bits_are b c d r x a k h i l j in cc

pub unused_bits : (b c d r x : List ℕ) (u : ℕ) (y : List ℕ) → b ≡ element 0x30 c → c ≡ (element 0x30 d ++ r)
    → r ≡ element 3 x → x ≡ (u ∷ y)
    → (u ≡ 0 → ⊥) → (a k : List ℕ) → b ≡ subject_public_key_info a k → ⊥
unused_bits b c d r x u y h i l m n a k j = n (heads _ _ _ _ (sym m ∙ bits_are b c d r x a k h i l j))

pub an_info : (b c d r x : List ℕ) (u : ℕ) (y : List ℕ) → b ≡ element 0x30 c → c ≡ (element 0x30 d ++ r)
    → r ≡ element 3 x → x ≡ (u ∷ y)
    → u ≡ 0 → b ≡ subject_public_key_info d y
an_info b c d r x u y h i l m n =
    let f : x ≡ (0 ∷ y) = m ∙ ap (λ (z : ℕ). z ∷ y) n in
    let g : c ≡ (element 0x30 d ++ element 3 (0 ∷ y)) = i ∙ ap (λ (z : List ℕ). element 0x30 d ++ z) (l ∙ ap (element 3) f) in
    whole_info b d y (h ∙ ap (element 0x30) g)

-- bytes are at most one SubjectPublicKeyInfo, and no RSAPublicKey besides
pub record SameInfo (a d k y : List ℕ) : Type 0 where
  pub algorithm : a ≡ d
  pub octets : k ≡ y

pub one_info : (b a k d y : List ℕ) → b ≡ subject_public_key_info a k → b ≡ subject_public_key_info d y → SameInfo a d k y
one_info b a k d y h i =
    let g = one_element 0x30 a d (element 3 (0 ∷ k)) (element 3 (0 ∷ y))
    (info_content b (element 0x30 a ++ element 3 (0 ∷ k)) d y (info_whole b a k h) i) in
    record { algorithm = g.content; octets = tails _ _ _ _ (one_whole 3 (0 ∷ k) (0 ∷ y) g.rest) }

pub no_two : (b a k n e : List ℕ) → b ≡ subject_public_key_info a k → b ≡ rsa_public_key n e → ⊥
no_two b a k n e h i =
    let f = rsa_content b (element 0x30 a ++ element 3 (0 ∷ k)) n e (info_whole b a k h) i in
    let g = opens n (integer e) (element 0x30 a ++ element 3 (0 ∷ k)) f in
    omega (arith, heads _ _ _ _ (sym (opened 0x30 a (element 3 (0 ∷ k))) ∙ g ∙ opened 2 (signed n) (integer e)))

-- one number has one INTEGER
pub one_number : (m n : List ℕ) → IsPositive m → IsPositive n → signed m ≡ signed n → m ≡ n
one_number m n p q e = elim (cases_lt (slice_index m 0) 0x80) [
  | inl a ↦ elim (cases_lt (slice_index n 0) 0x80) [
    | inl b ↦ sym (low m a) ∙ e ∙ low n b
    | inr b ↦ let f : m ≡ (0 ∷ n) = sym (low m a) ∙ e ∙ high n b in absurd (omega (arith, first_is 0 m n f))
  ]
  | inr a ↦ elim (cases_lt (slice_index n 0) 0x80) [
    | inl b ↦ let f : n ≡ (0 ∷ m) = sym (low n b) ∙ sym e ∙ high m a in absurd (omega (arith, first_is 0 n m f))
    | inr b ↦ tails 0 0 m n (sym (high m a) ∙ e ∙ high n b)
  ]
]

pub record SameNumbers (m n d e : List ℕ) : Type 0 where
  pub modulus : m ≡ n
  pub exponent : d ≡ e

pub one_rsa_key : (b m d n e : List ℕ) → IsPositive m → IsPositive d → IsPositive n → IsPositive e
    → b ≡ rsa_public_key m d → b ≡ rsa_public_key n e → SameNumbers m n d e
one_rsa_key b m d n e p q r s h i =
    let f = one_integer m n (integer d) (integer e) (rsa_content b (integer m ++ integer d) n e (rsa_whole b m d h) i) in
    let g : (integer d ++ []) ≡ (integer e ++ []) = ap (λ (x : List ℕ). x ++ []) f.rest in
    record { modulus = one_number m n p r f.content; exponent = one_number d e q s (one_integer d e [] [] g).content }

-- private keys
private_whole : (b : List ℕ) (x : IsPrivateKey b) → b ≡ element 0x30 (element 2 (x.version ∷ []) ++ x.rest)
unfolding sequence
private_whole b x = x.bytes_are

whole_private : (b : List ℕ) (v : ℕ) (r : List ℕ) → v ≤ 1 → b ≡ element 0x30 (element 2 (v ∷ []) ++ r) → IsPrivateKey b
unfolding sequence
whole_private b v r l e = record { version = v; rest = r; is_version = l; bytes_are = e }

pub not_private_info : (b a k : List ℕ) → b ≡ subject_public_key_info a k → IsPrivateKey b → ⊥
not_private_info b a k h x =
    let f = info_content b (element 2 (x.version ∷ []) ++ x.rest) a k (private_whole b x) h in
    omega (arith, heads _ _ _ _ (sym (opened 2 (x.version ∷ []) x.rest) ∙ f ∙ opened 0x30 a (element 3 (0 ∷ k))))

pub no_private : (b : List ℕ) → ((c : List ℕ) → b ≡ element 0x30 c → ⊥) → IsPrivateKey b → ⊥
no_private b none x = none (element 2 (x.version ∷ []) ++ x.rest) (private_whole b x)

private_content : (b c : List ℕ) → b ≡ element 0x30 c → (x : IsPrivateKey b) → c ≡ (element 2 (x.version ∷ []) ++ x.rest)
private_content b c h x = one_whole 0x30 c (element 2 (x.version ∷ []) ++ x.rest) (sym h ∙ private_whole b x)

pub no_version : (b c : List ℕ) → b ≡ element 0x30 c → ((d s : List ℕ) → c ≡ (element 2 d ++ s) → ⊥) → IsPrivateKey b → ⊥
no_version b c h none x = none (x.version ∷ []) x.rest (private_content b c h x)

pub version_is : (b c d r : List ℕ) → b ≡ element 0x30 c → c ≡ (element 2 d ++ r) → (x : IsPrivateKey b) → d ≡ (x.version ∷ [])
version_is b c d r h i x = (one_element 2 d (x.version ∷ []) r x.rest (sym i ∙ private_content b c h x)).content

pub a_private : (b c d r q : List ℕ) (m : ℕ) → b ≡ element 0x30 c → c ≡ (element 2 d ++ r) → d ≡ (m ∷ q) → m ≤ 1
    → length q ≤ 0 → IsPrivateKey b
a_private b c d r [] m h i e l z =
    whole_private b m r l (h ∙ ap (element 0x30) (i ∙ ap (λ (s : List ℕ). element 2 s ++ r) e))
a_private b c d r (x ∷ q) m h i e l z = absurd (omega arith)

pub empty_version : (b c d r : List ℕ) → b ≡ element 0x30 c → c ≡ (element 2 d ++ r) → d ≡ [] → IsPrivateKey b → ⊥
empty_version b c d r h i e x = let f : [] ≡ (x.version ∷ []) = sym e ∙ version_is b c d r h i x in cc

pub high_version : (b c d r q : List ℕ) (m : ℕ) → b ≡ element 0x30 c → c ≡ (element 2 d ++ r) → d ≡ (m ∷ q) → 1 < m
    → IsPrivateKey b → ⊥
high_version b c d r q m h i e l x = omega (arith, x.is_version, heads _ _ _ _ (sym e ∙ version_is b c d r h i x))

pub long_version : (b c d r q : List ℕ) (m : ℕ) → b ≡ element 0x30 c → c ≡ (element 2 d ++ r) → d ≡ (m ∷ q)
    → 0 < length q → IsPrivateKey b → ⊥
long_version b c d r q m h i e l x = omega (arith, ap length (tails _ _ _ _ (sym e ∙ version_is b c d r h i x)))
