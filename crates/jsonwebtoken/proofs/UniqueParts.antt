-- A token has one cut.
use Rattle.std.proofs.Common.{◌≡◌, ℕ, List, [], ◌∷◌, ◌++◌, Contains, refl, sym, subst, ◌∙◌, arith}
use Rattle.std.proofs.lemmas.List.{append_assoc}
use Rattle.std.proofs.lemmas.List.Elements.{Contains-append_right}
use Rattle.jsonwebtoken.specs.Tests.{dot, Parts, ArePartsOf, Token, Compact, Separate, HasParts}

here : (b : List ℕ) (d : ℕ) → Contains (d ∷ b) d
here b d = (0, omega arith, refl)

middle : (a b : List ℕ) (d : ℕ) → Contains (a ++ d ∷ b) d
middle a b d = Contains-append_right a (d ∷ b) d (here b d)

-- the last place of d cuts a list in one way
at_last : (a b p q : List ℕ) (d : ℕ) → ¬ Contains b d → ¬ Contains q d → a ++ d ∷ b ≡ p ++ d ∷ q → (a ≡ p) × (b ≡ q)
at_last [] b [] q d h k e = (refl, cc)
at_last [] b (x ∷ p) q d h k e = let tails : b ≡ p ++ d ∷ q = cc in
    absurd (h (subst (λ l. Contains l d) (sym tails) (middle p q d)))
at_last (x ∷ a) b [] q d h k e = let tails : q ≡ a ++ d ∷ b = cc in
    absurd (k (subst (λ l. Contains l d) (sym tails) (middle a b d)))
at_last (x ∷ a) b (y ∷ p) q d h k e =
    let heads : x ≡ y = cc in
    let tails : a ++ d ∷ b ≡ p ++ d ∷ q = cc in
    let r = at_last a b p q d h k tails in
    let first : a ≡ p = r.0 in
    ((cc), r.1)

front_of : (x : List ℕ) (c : Parts) → ArePartsOf x c → x ≡ (c.header ++ dot ∷ c.payload) ++ dot ∷ c.signature
front_of x c cut = cut.joined ∙ sym (append_assoc c.header (dot ∷ c.payload) (dot ∷ c.signature))

abbrev pieces : List ℕ → List ℕ → List ℕ → Parts
pieces h p s = record { header = h; payload = p; signature = s }

one_way_of : (x : List ℕ) (c d : Parts) → ArePartsOf x c → ArePartsOf x d → c ≡ d
one_way_of x c d p q =
    let fronts = at_last (c.header ++ dot ∷ c.payload) c.signature (d.header ++ dot ∷ d.payload) d.signature dot
    p.signature q.signature (sym (front_of x c p) ∙ front_of x d q) in
    let heads = at_last c.header c.payload d.header d.payload dot p.payload q.payload fronts.0 in
    let headers : c.header ≡ d.header = heads.0 in
    let payloads : c.payload ≡ d.payload = heads.1 in
    let signatures : c.signature ≡ d.signature = fronts.1 in
    let same : pieces c.header c.payload c.signature ≡ pieces d.header d.payload d.signature = cc in same

pub one_way : (x : Token) (c d : Parts) → HasParts x c → HasParts x d → c ≡ d
one_way (Compact x) c d p q = one_way_of x c d p q
one_way (Separate x) c d p q = p ∙ sym q

-- a text with no dot has no cut
pub no_dot : (x : List ℕ) (c : Parts) → ¬ Contains x dot → ¬ ArePartsOf x c
no_dot x c none cut = none (subst (λ l. Contains l dot) (sym cut.joined) (middle c.header (c.payload ++ dot ∷ c.signature) dot))

-- nor has one with a single dot
pub one_dot : (x f s : List ℕ) (c : Parts) → x ≡ f ++ dot ∷ s → ¬ Contains s dot → ¬ Contains f dot → ¬ ArePartsOf x c
one_dot x f s c e last none cut =
    let fronts = at_last f s (c.header ++ dot ∷ c.payload) c.signature dot last cut.signature (sym e ∙ front_of x c cut) in
    none (subst (λ l. Contains l dot) (sym fronts.0) (middle c.header c.payload dot))
