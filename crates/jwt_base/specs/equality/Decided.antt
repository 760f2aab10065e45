-- Tests that decide a sameness: how they are composed, and proofs that they are equivalences.
use Rattle.std.specs.Prelude.{◌≡◌, ◌&&◌, ℕ, List, [], ◌∷◌, Bool, true, false, Option, Some, None, option_map, map, refl}
use Rattle.std.specs.Bool.{Decides, one_answer}
use Rattle.std.specs.Cmp.{IsEquivalence}
use Rattle.std.specs.Cmp.Lexicographic.{pointwise}
use Rattle.std.specs.Hash.{HashWrites, Alike}
use Rattle.std.specs.Str.{bytes_eq}
use Rattle.std.proofs.Common.{sym, ap, ◌∙◌, true≢false}
use Rattle.std.proofs.lemmas.Slice.Eq.{bytes_eq-Decides}

abbrev pub option_eq : {A : Type 0} → (A → A → Bool) → Option A → Option A → Bool
option_eq test None None = true
option_eq test None (Some b) = false
option_eq test (Some a) None = false
option_eq test (Some a) (Some b) = test a b

abbrev some_of : {A B : Type 0} → B → (A → B) → Option A → B
some_of b f None = b
some_of b f (Some a) = f a

pub option_decides : {A B : Type 0} (test : A → A → Bool) (f : A → B) → ((a b : A) → Decides (test a b) (f a ≡ f b))
    → (x y : Option A) → Decides (option_eq test x y) (option_map f x ≡ option_map f y)
option_decides test f same None None = (λ e. refl, λ e. refl)
option_decides test f same None (Some b) = (λ e. absurd (true≢false (sym e)), λ e. absurd (cc))
option_decides test f same (Some a) None = (λ e. absurd (true≢false (sym e)), λ e. absurd (cc))
option_decides test f same (Some a) (Some b) =
    (λ e. ap Some ((same a b).0 e), λ e. (same a b).1 (ap (some_of (f a) (λ x. x)) e))

map_id : {A : Type 0} (x : Option A) → option_map (λ a. a) x ≡ x
map_id None = refl
map_id (Some a) = refl

pub option_decides_itself : {A : Type 0} (test : A → A → Bool) → ((a b : A) → Decides (test a b) (a ≡ b))
    → (x y : Option A) → Decides (option_eq test x y) (x ≡ y)
option_decides_itself test same x y =
    let both = option_decides test (λ a. a) same x y in
    (λ e. sym (map_id x) ∙ both.0 e ∙ map_id y, λ e. both.1 (ap (option_map (λ a. a)) e))

pub and_decides : {P Q : Type 0} (s t : Bool) → Decides s P → Decides t Q → Decides (s && t) (P × Q)
and_decides true t p q = (λ e. (p.0 refl, q.0 e), λ h. q.1 h.1)
and_decides false t p q = (λ e. absurd (true≢false (sym e)), λ h. p.1 h.0)

pub same_as : {P Q : Type 0} (s : Bool) → Decides s P → (P → Q) → (Q → P) → Decides s Q
same_as s d f g = (λ e. f (d.0 e), λ q. d.1 (g q))

-- values with the same mark feed the same bytes, if these depend on the mark alone
module _ {K J : Type 0} (test : K → K → Bool) (f : K → J) (decides : (x y : K) → Decides (test x y) (f x ≡ f y)) where
  pub fed_by_mark : (F : K → HashWrites) (G : J → HashWrites) → ((x : K) → F x ≡ G (f x)) → Alike test F
  fed_by_mark F G same = record { fed = λ x y e. same x ∙ ap G ((decides x y).0 e) ∙ sym (same y) }

-- lists, item by item
pub list_decides : {A B : Type 0} (test : A → A → Bool) (f : A → B) → ((a b : A) → Decides (test a b) (f a ≡ f b))
    → (xs ys : List A) → Decides (pointwise test xs ys) (map f xs ≡ map f ys)
list_decides test f same [] [] = (λ e. refl, λ e. refl)
list_decides test f same [] (y ∷ ys) = (λ e. absurd (true≢false (sym e)), λ e. absurd (cc))
list_decides test f same (x ∷ xs) [] = (λ e. absurd (true≢false (sym e)), λ e. absurd (cc))
list_decides test f same (x ∷ xs) (y ∷ ys) =
    same_as _ (and_decides (test x y) (pointwise test xs ys) (same x y) (list_decides test f same xs ys))
    (λ p i. p.0 i ∷ p.1 i)
    (λ e. (cc, cc))

map_itself : {A : Type 0} (xs : List A) → map (λ a. a) xs ≡ xs
map_itself [] = refl
map_itself (x ∷ xs) = ap (λ more. x ∷ more) (map_itself xs)

pub list_decides_itself : {A : Type 0} (test : A → A → Bool) → ((a b : A) → Decides (test a b) (a ≡ b))
    → (xs ys : List A) → Decides (pointwise test xs ys) (xs ≡ ys)
list_decides_itself test same xs ys =
    let both = list_decides test (λ a. a) same xs ys in
    (λ e. sym (map_itself xs) ∙ both.0 e ∙ map_itself ys, λ e. both.1 (ap (map (λ a. a)) e))

pub texts_decides : (xs ys : List (List ℕ)) → Decides (pointwise bytes_eq xs ys) (xs ≡ ys)
texts_decides [] [] = (λ e. refl, λ e. refl)
texts_decides [] (y ∷ ys) = (λ e. absurd (true≢false (sym e)), λ e. absurd (cc))
texts_decides (x ∷ xs) [] = (λ e. absurd (true≢false (sym e)), λ e. absurd (cc))
texts_decides (x ∷ xs) (y ∷ ys) =
    same_as _ (and_decides (bytes_eq x y) (pointwise bytes_eq xs ys) (bytes_eq-Decides x y) (texts_decides xs ys))
    (λ p i. p.0 i ∷ p.1 i)
    (λ e. (cc, cc))

-- a test that decides whether the marks are the same is an equivalence
module _ {K J : Type 0} (test : K → K → Bool) (f : K → J) (decides : (x y : K) → Decides (test x y) (f x ≡ f y)) where
  turn : (x y : K) → f x ≡ f y → test x y ≡ true → (z : K) → test x z ≡ test y z
  turn x y e t z = one_answer (test x z) (test y z) (decides x z) (λ h. e ∙ (decides y z).0 h, λ h. (decides y z).1 (sym e ∙ h))

  pub decided_by : IsEquivalence test
  decided_by = record {
    refl = λ x. (decides x x).1 refl;
    symm = λ x y. one_answer (test x y) (test y x) (decides x y) (λ e. sym ((decides y x).0 e), λ e. (decides y x).1 (sym e));
    congr = λ x y z t. turn x y ((decides x y).0 t) t z;
  }
