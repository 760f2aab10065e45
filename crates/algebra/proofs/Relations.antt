-- Two arithmetics that agree give values that agree.
use Rattle.std.proofs.Common.{◌≡◌, ℕ, zero, suc, ◌<◌, List, [], ◌∷◌, Bool, true, false, refl, arith}
use Rattle.std.specs.Prelude.{◌&&◌}
use Rattle.algebra.proofs.Programs.{Expr, var, num, add, sub, mul, Ops, nth, eval, run, quad, Tower, embed, tower}
use Rattle.algebra.proofs.Programs.{lifted, places, squares, values, parts, first_pass}

pub record Respects (A B : Type 0) (o : Ops A) (o' : Ops B) (R : A → B → Type 0) : Type 0 where
  pub num : (c : ℕ) → R (o.num c) (o'.num c)
  pub add : (a b : A) (a' b' : B) → R a a' → R b b' → R (o.add a b) (o'.add a' b')
  pub sub : (a b : A) (a' b' : B) → R a a' → R b b' → R (o.sub a b) (o'.sub a' b')
  pub mul : (a b : A) (a' b' : B) → R a a' → R b b' → R (o.mul a b) (o'.mul a' b')

abbrev pub Related : {A B : Type 0} → (A → B → Type 0) → List A → List B → Type 0
Related R [] [] = Unit {0}
Related R [] (y ∷ ys) = ⊥
Related R (x ∷ xs) [] = ⊥
Related R (x ∷ xs) (y ∷ ys) = R x y × Related R xs ys

pub nth_related : {A B : Type 0} (R : A → B → Type 0) (d : A) (d' : B) → R d d' → (xs : List A) (ys : List B) → Related R xs ys
    → (k : ℕ) → R (nth d xs k) (nth d' ys k)
unfolding nth
nth_related R d d' h [] [] r k = h
nth_related R d d' h [] (y ∷ ys) r k = absurd r
nth_related R d d' h (x ∷ xs) [] r k = absurd r
nth_related R d d' h (x ∷ xs) (y ∷ ys) r zero = r.0
nth_related R d d' h (x ∷ xs) (y ∷ ys) r (suc k) = nth_related R d d' h xs ys r.1 k

pub eval_related : {A B : Type 0} (o : Ops A) (o' : Ops B) (R : A → B → Type 0) → Respects A B o o' R
    → (xs : List A) (ys : List B) → Related R xs ys → (e : Expr) → R (eval o xs e) (eval o' ys e)
unfolding eval
eval_related o o' R s xs ys r (var k) = nth_related R (o.num 0) (o'.num 0) (s.num 0) xs ys r k
eval_related o o' R s xs ys r (num c) = s.num c
eval_related o o' R s xs ys r (add e f) =
    s.add (eval o xs e) (eval o xs f) (eval o' ys e) (eval o' ys f) (eval_related o o' R s xs ys r e)
    (eval_related o o' R s xs ys r f)
eval_related o o' R s xs ys r (sub e f) =
    s.sub (eval o xs e) (eval o xs f) (eval o' ys e) (eval o' ys f) (eval_related o o' R s xs ys r e)
    (eval_related o o' R s xs ys r f)
eval_related o o' R s xs ys r (mul e f) =
    s.mul (eval o xs e) (eval o xs f) (eval o' ys e) (eval o' ys f) (eval_related o o' R s xs ys r e)
    (eval_related o o' R s xs ys r f)

pub run_related : {A B : Type 0} (o : Ops A) (o' : Ops B) (R : A → B → Type 0) → Respects A B o o' R
    → (xs : List A) (ys : List B) → Related R xs ys → (es : List Expr) → Related R (run o xs es) (run o' ys es)
unfolding run
run_related o o' R s xs ys r [] = r
run_related o o' R s xs ys r (e ∷ es) =
    run_related o o' R s (eval o xs e ∷ xs) (eval o' ys e ∷ ys) (eval_related o o' R s xs ys r e, r) es

pub lifted_related : {A A' B B' : Type 0} (R : A → B → Type 0) (R' : A' → B' → Type 0) (g : A → A') (g' : B → B')
    → ((a : A) (b : B) → R a b → R' (g a) (g' b))
    → (xs : List A) (ys : List B) → Related R xs ys → Related R' (lifted g xs) (lifted g' ys)
unfolding lifted
lifted_related R R' g g' h [] [] r = tt
lifted_related R R' g g' h [] (y ∷ ys) r = absurd r
lifted_related R R' g g' h (x ∷ xs) [] r = absurd r
lifted_related R R' g g' h (x ∷ xs) (y ∷ ys) r = (h x y r.0, lifted_related R R' g g' h xs ys r.1)

-- as `lifted_related`, with one list lifted
pub lifted_left : {A A' B : Type 0} (R : A → B → Type 0) (R' : A' → B → Type 0) (g : A → A')
    → ((a : A) (b : B) → R a b → R' (g a) b)
    → (xs : List A) (ys : List B) → Related R xs ys → Related R' (lifted g xs) ys
unfolding lifted
lifted_left R R' g h [] [] r = tt
lifted_left R R' g h [] (y ∷ ys) r = absurd r
lifted_left R R' g h (x ∷ xs) [] r = absurd r
lifted_left R R' g h (x ∷ xs) (y ∷ ys) r = (h x y r.0, lifted_left R R' g h xs ys r.1)

-- the parts agree
abbrev pub TowerR : {A B : Type 0} (h : ℕ) → (A → B → Type 0) → Tower h A → Tower h B → Type 0
TowerR zero R u v = R u v
TowerR (suc h) R u v = TowerR h R u.0 v.0 × TowerR h R u.1 v.1

module _ {A B : Type 0} (o : Ops A) (o' : Ops B) (R : A → B → Type 0) (s : Respects A B o o' R) where
  pub embed_both : (h : ℕ) (a : A) (b : B) → R a b → TowerR h R (embed o h a) (embed o' h b)
  unfolding embed
  embed_both zero a b r = r
  embed_both (suc h) a b r = (embed_both h a b r, embed_both h (o.num 0) (o'.num 0) (s.num 0))

  pub tower_both : (f : ℕ → A) (f' : ℕ → B) → ((k : ℕ) → R (f k) (f' k)) → (h : ℕ)
      → Respects (Tower h A) (Tower h B) (tower o f h) (tower o' f' h) (TowerR h R)
  unfolding tower quad
  tower_both f f' r zero = s
  tower_both f f' r (suc h) =
      let t : Respects (Tower h A) (Tower h B) (tower o f h) (tower o' f' h) (TowerR h R) = tower_both f f' r h in
      record {
        num = λ c. (t.num c, t.num 0);
        add = λ a b a' b' x y. (t.add a.0 b.0 a'.0 b'.0 x.0 y.0, t.add a.1 b.1 a'.1 b'.1 x.1 y.1);
        sub = λ a b a' b' x y. (t.sub a.0 b.0 a'.0 b'.0 x.0 y.0, t.sub a.1 b.1 a'.1 b'.1 x.1 y.1);
        mul = λ a b a' b' x y. (
          t.add _ _ _ _ (t.mul a.0 b.0 a'.0 b'.0 x.0 y.0)
              (t.mul _ _ _ _ (embed_both h (f h) (f' h) (r h)) (t.mul a.1 b.1 a'.1 b'.1 x.1 y.1)),
          t.add _ _ _ _ (t.mul a.0 b.1 a'.0 b'.1 x.0 y.1) (t.mul a.1 b.0 a'.1 b'.0 x.1 y.0),
        );
      }

  pub places_both : (h : ℕ) (xs : List A) (ys : List B) → Related R xs ys
      → Related (TowerR h R) (places o h xs) (places o' h ys)
  unfolding places
  places_both zero xs ys r = r
  places_both (suc h) xs ys r = (
    (embed_both h (o.num 0) (o'.num 0) (s.num 0), embed_both h (o.num 1) (o'.num 1) (s.num 1)),
    lifted_related (TowerR h R) (TowerR (suc h) R) (λ a. (a, embed o h (o.num 0))) (λ b. (b, embed o' h (o'.num 0)))
        (λ a b x. (x, embed_both h (o.num 0) (o'.num 0) (s.num 0))) (places o h xs) (places o' h ys) (places_both h xs ys r),
  )

  pub values_both : (h : ℕ) (fs : List Expr) (xs : List A) (ys : List B) → Related R xs ys → (es : List Expr)
      → Related (TowerR h R) (values o h fs xs es) (values o' h fs ys es)
  unfolding values squares
  values_both h fs xs ys r es =
      run_related (tower o (squares o fs xs) h) (tower o' (squares o' fs ys) h) (TowerR h R)
      (tower_both (squares o fs xs) (squares o' fs ys) (λ k. eval_related o o' R s xs ys r (nth (num 0) fs k)) h)
      (places o h xs) (places o' h ys) (places_both h xs ys r) es

-- a fact of each part
abbrev pub AllParts : {A : Type 0} → (A → Type 0) → (h : ℕ) → Tower h A → Type 0
AllParts P zero u = P u
AllParts P (suc h) u = AllParts P h u.0 × AllParts P h u.1

pub parts_all : {A : Type 0} (P : A → Type 0) → ((a : A) → P a) → (h : ℕ) (u : Tower h A) → AllParts P h u
parts_all P f zero u = f u
parts_all P f (suc h) u = (parts_all P f h u.0, parts_all P f h u.1)

pub parts_with : {A : Type 0} (P Q S : A → Type 0) → ((a : A) → P a → Q a → S a) → (h : ℕ) (u : Tower h A)
    → AllParts P h u → AllParts Q h u → AllParts S h u
parts_with P Q S f zero u p q = f u p q
parts_with P Q S f (suc h) u p q = (parts_with P Q S f h u.0 p.0 q.0, parts_with P Q S f h u.1 p.1 q.1)

pub and_first : (a b : Bool) → (a && b) ≡ true → a ≡ true
and_first true b e = refl
and_first false b e = e

pub and_second : (a b : Bool) → (a && b) ≡ true → b ≡ true
and_second true b e = e
and_second false b e = cc

-- a test of each part
pub parts_tested : {A B : Type 0} (R : A → B → Type 0) (t : B → Bool) (P : A → Type 0)
    → ((a : A) (b : B) → R a b → t b ≡ true → P a)
    → (h : ℕ) (u : Tower h A) (v : Tower h B) → TowerR h R u v → parts t h v ≡ true → AllParts P h u
unfolding parts
parts_tested R t P f zero u v r e = f u v r e
parts_tested R t P f (suc h) u v r e = (
  parts_tested R t P f h u.0 v.0 r.0 (and_first (parts t h v.0) (parts t h v.1) e),
  parts_tested R t P f h u.1 v.1 r.1 (and_second (parts t h v.0) (parts t h v.1) e),
)

-- a test of the first values
pub first_tested : {A B : Type 0} (R : A → B → Type 0) (t : B → Bool) (P : A → Type 0) (d : A)
    → ((a : A) (b : B) → R a b → t b ≡ true → P a)
    → (n : ℕ) (xs : List A) (ys : List B) → Related R xs ys → first_pass t n ys ≡ true → (k : ℕ) → k < n → P (nth d xs k)
unfolding first_pass nth
first_tested R t P d f zero xs ys r e k h = absurd (omega arith)
first_tested R t P d f (suc n) xs [] r e k h = cc
first_tested R t P d f (suc n) [] (y ∷ ys) r e k h = absurd r
first_tested R t P d f (suc n) (x ∷ xs) (y ∷ ys) r e zero h = f x y r.0 (and_first (t y) (first_pass t n ys) e)
first_tested R t P d f (suc n) (x ∷ xs) (y ∷ ys) r e (suc k) h =
    first_tested R t P d f n xs ys r.1 (and_second (t y) (first_pass t n ys) e) k (omega arith)
