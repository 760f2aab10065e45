-- A program whose values vanish at a point beyond their coefficients gives 0 modulo any number, where the roots are
-- square roots.
use Rattle.std.proofs.Common.{◌≡◌, ℕ, zero, suc, ◌+◌, ◌*◌, ◌%◌, ◌<◌, ◌≤◌, List, [], ◌∷◌, length, Bool, true, refl, sym}
use Rattle.std.proofs.Common.{ap, subst, ◌∙◌, arith}
use Rattle.std.proofs.Math.Nat.{mod-mod}
use Rattle.std.specs.Prelude.{nat_eq, nat_lt}
use Rattle.std.proofs.lemmas.Bool.{eqb-true, ltb-true}
use Rattle.limbs.proofs.Congruences.{add_alike, mul_alike}
use Rattle.residues.specs.Modulo.{plus, minus, times}
use Rattle.algebra.proofs.Programs.{Expr, num, Ops, nth, eval, run, quad, wholes, bounds, Tower, embed, tower, lifted}
use Rattle.algebra.proofs.Programs.{places, squares, values, parts, first_pass, vanish, bounded, each_place, lengths}
use Rattle.algebra.proofs.Programs.{ones, short, bounded_at}
use Rattle.algebra.proofs.Substitution.{Poly, con, cons, head, rest, ev, add_poly, mul_con, ev_add, ev_mul_con, Small}
use Rattle.algebra.proofs.Substitution.{small_less, poly_same}
use Rattle.algebra.proofs.Lengths.{HasLength, length_to, agree, AreShort, short_respects, symbols_short}
use Rattle.algebra.proofs.Relations.{Respects, Related, nth_related, eval_related, run_related, lifted_left, TowerR}
use Rattle.algebra.proofs.Relations.{values_both, AllParts, parts_all, parts_with, parts_tested, first_tested}
use Rattle.algebra.proofs.Relations.{and_first, and_second}
use Rattle.algebra.proofs.Symbols.{differences, modulo, IsWhole, IsBound, IsResidue, whole_respects, bound_respects}
use Rattle.algebra.proofs.Symbols.{residue_respects, minus_back, cancel, symbols, symbols_whole, symbols_bound}
use Rattle.algebra.proofs.Symbols.{symbols_residue}

-- the number v is u.0 + u.1 y
abbrev pub IsRoot : {A : Type 0} → (A → ℕ → Type 0) → ℕ → ℕ → A × A → ℕ → Type 0
IsRoot R q y u v = (a : ℕ) × (b : ℕ) × R u.0 a × R u.1 b × (v % q ≡ (a + b * y) % q)

module _ {A : Type 0} (q : ℕ) (pos : 0 < q) (o : Ops A) (R : A → ℕ → Type 0) (s : Respects A ℕ o (modulo q) R)
    (f : A) (f' y : ℕ) (rf : R f f') (square : (y * y) % q ≡ f' % q) where
  root_num : (c : ℕ) → IsRoot R q y (o.num c, o.num 0) ((modulo q).num c)
  unfolding modulo
  root_num c = (c, 0, s.num c, s.num 0, ap (λ z. z % q) (let e : c ≡ c + 0 * y = omega arith in e))

  root_add : (u v : A × A) (u' v' : ℕ) → IsRoot R q y u u' → IsRoot R q y v v'
      → IsRoot R q y (o.add u.0 v.0, o.add u.1 v.1) ((modulo q).add u' v')
  unfolding modulo plus
  root_add u v u' v' x w =
      let a = x.0 in let b = x.1 in let c = w.0 in let d = w.1 in (
        plus q a c,
        plus q b d,
        s.add u.0 v.0 a c x.2 w.2,
        s.add u.1 v.1 b d x.3 w.3,
        mod-mod (u' + v') q
            ∙ add_alike q u' (a + b * y) v' (c + d * y) x.4 w.4
            ∙ ap (λ z. z % q) (let e : (a + b * y) + (c + d * y) ≡ (a + c) + (b + d) * y = omega arith in e)
            ∙ add_alike q (a + c) (plus q a c) ((b + d) * y) (plus q b d * y) (sym (mod-mod (a + c) q))
            (mul_alike q (b + d) (plus q b d) y y (sym (mod-mod (b + d) q)) refl),
      )

  root_sub : (u v : A × A) (u' v' : ℕ) → IsRoot R q y u u' → IsRoot R q y v v'
      → IsRoot R q y (o.sub u.0 v.0, o.sub u.1 v.1) ((modulo q).sub u' v')
  unfolding modulo
  root_sub u v u' v' x w =
      let a = x.0 in let b = x.1 in let c = w.0 in let d = w.1 in
      let m = minus q a c in let n = minus q b d in
      let right : ((m + n * y) + v') % q ≡ (a + b * y) % q =
      add_alike q (m + n * y) (m + n * y) v' (c + d * y) refl w.4
      ∙ ap (λ z. z % q) (let e : (m + n * y) + (c + d * y) ≡ (m + c) + (n + d) * y = omega arith in e)
      ∙ add_alike q (m + c) a ((n + d) * y) (b * y) (minus_back q pos a c)
      (mul_alike q (n + d) b y y (minus_back q pos b d) refl) in (
        m,
        n,
        s.sub u.0 v.0 a c x.2 w.2,
        s.sub u.1 v.1 b d x.3 w.3,
        cancel q pos (minus q u' v') (m + n * y) v' (minus_back q pos u' v' ∙ x.4 ∙ sym right),
      )

  root_mul : (u v : A × A) (u' v' : ℕ) → IsRoot R q y u u' → IsRoot R q y v v'
      → IsRoot R q y (o.add (o.mul u.0 v.0) (o.mul f (o.mul u.1 v.1)), o.add (o.mul u.0 v.1) (o.mul u.1 v.0))
      ((modulo q).mul u' v')
  unfolding modulo plus times
  root_mul u v u' v' x w =
      let a = x.0 in let b = x.1 in let c = w.0 in let d = w.1 in
      let first = plus q (times q a c) (times q f' (times q b d)) in
      let second = plus q (times q a d) (times q b c) in
      let e1 : first % q ≡ (a * c + f' * (b * d)) % q =
      mod-mod (times q a c + times q f' (times q b d)) q
      ∙ add_alike q (times q a c) (a * c) (times q f' (times q b d)) (f' * (b * d)) (mod-mod (a * c) q)
      (mod-mod (f' * times q b d) q ∙ mul_alike q f' f' (times q b d) (b * d) refl (mod-mod (b * d) q)) in
      let e2 : second % q ≡ (a * d + b * c) % q =
      mod-mod (times q a d + times q b c) q
      ∙ add_alike q (times q a d) (a * d) (times q b c) (b * c) (mod-mod (a * d) q) (mod-mod (b * c) q) in (
        first,
        second,
        s.add (o.mul u.0 v.0) (o.mul f (o.mul u.1 v.1)) (times q a c) (times q f' (times q b d))
            (s.mul u.0 v.0 a c x.2 w.2) (s.mul f (o.mul u.1 v.1) f' (times q b d) rf (s.mul u.1 v.1 b d x.3 w.3)),
        s.add (o.mul u.0 v.1) (o.mul u.1 v.0) (times q a d) (times q b c) (s.mul u.0 v.1 a d x.2 w.3)
            (s.mul u.1 v.0 b c x.3 w.2),
        mod-mod (u' * v') q
            ∙ mul_alike q u' (a + b * y) v' (c + d * y) x.4 w.4
            ∙ ap (λ z. z % q) (let e : (a + b * y) * (c + d * y) ≡ (a * c + (y * y) * (b * d)) + (a * d + b * c)
            * y = omega arith in e)
            ∙ add_alike q (a * c + (y * y) * (b * d)) first ((a * d + b * c) * y) (second * y)
            (add_alike q (a * c) (a * c) ((y * y) * (b * d)) (f' * (b * d)) refl
            (mul_alike q (y * y) f' (b * d) (b * d) square refl) ∙ sym e1)
            (mul_alike q (a * d + b * c) second y y (sym e2) refl),
      )

  pub root_respects : Respects (A × A) ℕ (quad o f) (modulo q) (IsRoot R q y)
  unfolding quad
  root_respects = record { num = root_num; add = root_add; sub = root_sub; mul = root_mul }

-- relations of the whole tower
abbrev pub RootR : {A : Type 0} → (A → ℕ → Type 0) → ℕ → (ℕ → ℕ) → (h : ℕ) → Tower h A → ℕ → Type 0
RootR R q ys zero u v = R u v
RootR R q ys (suc h) u v = IsRoot (RootR R q ys h) q (ys h) u v

-- the roots, the last first, and the variables
unfoldable pub point_of : (ℕ → ℕ) → ℕ → List ℕ → List ℕ
point_of ys zero xs = xs
point_of ys (suc h) xs = ys h ∷ point_of ys h xs

module _ {A : Type 0} (q : ℕ) (pos : 0 < q) (o : Ops A) (R : A → ℕ → Type 0) (s : Respects A ℕ o (modulo q) R) (ys : ℕ
    → ℕ) where
  embed_root : (h : ℕ) (a : A) (b : ℕ) → R a b → RootR R q ys h (embed o h a) b
  unfolding embed modulo
  embed_root zero a b r = r
  embed_root (suc h) a b r = (
    b,
    0,
    embed_root h a b r,
    embed_root h (o.num 0) 0 (s.num 0),
    ap (λ z. z % q) (let e : b ≡ b + 0 * ys h = omega arith in e),
  )

  tower_root : (f : ℕ → A) (f' : ℕ → ℕ) → ((k : ℕ) → R (f k) (f' k)) → (h : ℕ)
      → ((k : ℕ) → k < h → (ys k * ys k) % q ≡ f' k % q)
      → Respects (Tower h A) ℕ (tower o f h) (modulo q) (RootR R q ys h)
  unfolding tower
  tower_root f f' r zero e = s
  tower_root f f' r (suc h) e =
      root_respects q pos (tower o f h) (RootR R q ys h) (tower_root f f' r h (λ k l. e k (omega arith)))
      (embed o h (f h)) (f' h) (ys h)
      (embed_root h (f h) (f' h) (r h)) (e h (omega arith))

  places_root : (h : ℕ) (xs : List A) (vs : List ℕ) → Related R xs vs
      → Related (RootR R q ys h) (places o h xs) (point_of ys h vs)
  unfolding places point_of modulo
  places_root zero xs vs r = r
  places_root (suc h) xs vs r = (
    (
      0,
      1,
      embed_root h (o.num 0) 0 (s.num 0),
      embed_root h (o.num 1) 1 (s.num 1),
      ap (λ z. z % q) (let e : ys h ≡ 0 + 1 * ys h = omega arith in e),
    ),
    lifted_left (RootR R q ys h) (RootR R q ys (suc h)) (λ a. (a, embed o h (o.num 0)))
        (λ a b k. (b, 0, k, embed_root h (o.num 0) 0 (s.num 0), ap (λ z. z % q) (let e : b ≡ b + 0 * ys h = omega arith in e)))
        (places o h xs) (point_of ys h vs) (places_root h xs vs r),
  )

  values_root : (h : ℕ) (fs : List Expr) (xs : List A) (vs : List ℕ) → Related R xs vs
      → ((k : ℕ) → k < h → (ys k * ys k) % q ≡ eval (modulo q) vs (nth (num 0) fs k) % q)
      → (es : List Expr) → Related (RootR R q ys h) (values o h fs xs es) (run (modulo q) (point_of ys h vs) es)
  unfolding values squares
  values_root h fs xs vs r e es =
      run_related (tower o (squares o fs xs) h) (modulo q) (RootR R q ys h)
      (tower_root (squares o fs xs) (λ k. eval (modulo q) vs (nth (num 0) fs k))
      (λ k. eval_related o (modulo q) R s xs vs r (nth (num 0) fs k)) h e)
      (places o h xs) (point_of ys h vs) (places_root h xs vs r) es

-- a number whose parts are 0 is 0
parts_zero : {A : Type 0} (R : A → ℕ → Type 0) (q : ℕ) (ys : ℕ → ℕ) (h : ℕ) (u : Tower h A) (v : ℕ) → RootR R q ys h u v
    → AllParts (λ a. (w : ℕ) → R a w → w % q ≡ 0 % q) h u → v % q ≡ 0 % q
parts_zero R q ys zero u v r p = p v r
parts_zero R q ys (suc h) u v r p =
    let first : r.0 % q ≡ 0 % q = parts_zero R q ys h u.0 r.0 r.2 p.0 in
    let second : r.1 % q ≡ 0 % q = parts_zero R q ys h u.1 r.1 r.3 p.1 in
    r.4 ∙ add_alike q r.0 0 (r.1 * ys h) (0 * ys h) first (mul_alike q r.1 0 (ys h) (ys h) second refl)
    ∙ ap (λ z. z % q) (let e : 0 + 0 * ys h ≡ 0 = omega arith in e)

-- the bounds of each place
places_small : {A : Type 0} (G : A → List ℕ → ℕ) (h : ℕ) (u : Tower h A) (t : List ℕ → ℕ → Bool) (bs : List ℕ)
    → ((r : List ℕ) (c : ℕ) → length r ≡ length bs → t r c ≡ true → AllParts (λ a. G a r < c) h u)
    → each_place t bs ≡ true → AllParts (λ a. Small bs (G a)) h u
unfolding each_place
places_small G h u t [] f e = parts_all (λ a. Small [] (G a)) (λ a. tt) h u
places_small G h u t (b ∷ bs) f e =
    parts_with (λ a. G a (1 ∷ bs) < b) (λ a. Small bs (λ r. G a (1 ∷ r))) (λ a. Small (b ∷ bs) (G a)) (λ a p s. (p, s)) h u
    (f (1 ∷ bs) b refl (and_first (t (1 ∷ bs) b) (each_place (λ r c. t (1 ∷ r) c) bs) e))
    (places_small (λ a r. G a (1 ∷ r)) h u (λ r c. t (1 ∷ r) c) bs (λ r c l k. f (1 ∷ r) c (ap suc l) k)
    (and_second (t (1 ∷ bs) b) (each_place (λ r c. t (1 ∷ r) c) bs) e))

-- facts of the parts, for each number below d
parts_each : {A : Type 0} (P : ℕ → A → Type 0) (d h : ℕ) (u : Tower h A) → ((c : ℕ) → c < d → AllParts (P c) h u)
    → AllParts (λ a. (c : ℕ) → c < d → P c a) h u
parts_each P d zero u f = f
parts_each P d (suc h) u f = (parts_each P d h u.0 (λ c l. (f c l).0), parts_each P d h u.1 (λ c l. (f c l).1))

module _ (h : ℕ) (fs program : List Expr) (outs m k : ℕ) (k_below : k < outs) where
  -- the value k, where there are m variables
  outcome : Tower h (Poly × Poly)
  outcome = nth (embed differences h (differences.num 0)) (values differences h fs (symbols m) program) k

  same_parts : (point : List ℕ) → length point ≡ m → vanish h fs program outs point ≡ true
      → AllParts (λ a. ev a.0 point ≡ ev a.1 point) h outcome
  unfolding outcome vanish
  same_parts point l vanishes =
      first_tested (TowerR h (IsWhole point)) (λ u. parts (λ a. nat_eq a.0 a.1) h u)
      (AllParts (λ a. ev a.0 point ≡ ev a.1 point) h)
      (embed differences h (differences.num 0))
      (λ u v r e. parts_tested (IsWhole point) (λ a. nat_eq a.0 a.1) (λ a. ev a.0 point ≡ ev a.1 point)
      (λ a w i t. let same : w.0 ≡ w.1 = eqb-true w.0 w.1 t in omega arith) h u v r e)
      outs (values differences h fs (symbols m) program) (values wholes h fs (lifted (λ n. (n, 0)) point) program)
      (values_both differences wholes (IsWhole point) (whole_respects point) h fs (symbols m) (lifted (λ n. (n, 0)) point)
      (subst (λ (n : ℕ). Related (IsWhole point) (symbols n) (lifted (λ c. (c, 0)) point)) l (symbols_whole point)) program)
      vanishes k k_below

  small_parts : (point : List ℕ) (whole : List ℕ → List ℕ) → ((r : List ℕ) → length r ≡ length point → length (whole r) ≡ m)
      → each_place (λ r b. first_pass (λ u. parts (λ n. nat_lt n b) h u) outs (values bounds h fs (whole r) program))
      point ≡ true
      → AllParts (λ a. Small point (λ r. ev a.0 (whole r) + ev a.1 (whole r))) h outcome
  unfolding outcome
  small_parts point whole l is_bounded =
      places_small (λ a r. ev a.0 (whole r) + ev a.1 (whole r)) h outcome
      (λ r b. first_pass (λ u. parts (λ n. nat_lt n b) h u) outs (values bounds h fs (whole r) program)) point
      (λ r b e t. first_tested (TowerR h (IsBound (whole r))) (λ u. parts (λ n. nat_lt n b) h u)
      (AllParts (λ a. ev a.0 (whole r) + ev a.1 (whole r) < b) h)
      (embed differences h (differences.num 0))
      (λ u v i j. parts_tested (IsBound (whole r)) (λ n. nat_lt n b) (λ a. ev a.0 (whole r) + ev a.1 (whole r) < b)
      (λ a w c x. let below : w < b = ltb-true w b x in omega arith) h u v i j)
      outs (values differences h fs (symbols m) program) (values bounds h fs (whole r) program)
      (values_both differences bounds (IsBound (whole r)) (bound_respects (whole r)) h fs (symbols m) (whole r)
      (subst (λ (n : ℕ). Related (IsBound (whole r)) (symbols n) (whole r)) (l r e) (symbols_bound (whole r))) program)
      t k k_below)
      is_bounded

  short_parts : (n d : ℕ) → suc n ≡ m → (r : List ℕ) → short h fs program outs n d ≡ true
      → AllParts (λ a. HasLength d (λ x. ev a.0 (x ∷ r)) × HasLength d (λ x. ev a.1 (x ∷ r))) h outcome
  unfolding outcome short
  short_parts n d e r is_short =
      first_tested (TowerR h (AreShort r)) (λ u. parts (λ i. nat_lt i (suc d)) h u)
      (AllParts (λ a. HasLength d (λ x. ev a.0 (x ∷ r)) × HasLength d (λ x. ev a.1 (x ∷ r))) h)
      (embed differences h (differences.num 0))
      (λ u v i j. parts_tested (AreShort r) (λ i. nat_lt i (suc d)) (λ a. HasLength d (λ x. ev a.0 (x ∷ r))
      × HasLength d (λ x. ev a.1 (x ∷ r)))
      (λ a w c t.
      let below : w < suc d = ltb-true w (suc d) t in
      let fits : w ≤ d = omega arith in
      (length_to d w (λ x. ev a.0 (x ∷ r)) fits c.0, length_to d w (λ x. ev a.1 (x ∷ r)) fits c.1)) h u v i j)
      outs (values differences h fs (symbols m) program) (values lengths h fs (2 ∷ ones n) program)
      (values_both differences lengths (AreShort r) (short_respects r) h fs (symbols m) (2 ∷ ones n)
      (subst (λ (i : ℕ). Related (AreShort r) (symbols i) (2 ∷ ones n)) e (symbols_short r n)) program)
      is_short k k_below

  zero_residue : (q : ℕ) → 0 < q → (xs : List ℕ) → length xs ≡ m → (ys : ℕ → ℕ)
      → ((j : ℕ) → j < h → (ys j * ys j) % q ≡ eval (modulo q) xs (nth (num 0) fs j) % q)
      → AllParts (λ a. ev a.0 xs ≡ ev a.1 xs) h outcome
      → nth 0 (run (modulo q) (point_of ys h xs) program) k % q ≡ 0 % q
  unfolding outcome modulo
  zero_residue q pos xs l ys squares_are same =
      parts_zero (IsResidue q xs) q ys h outcome (nth 0 (run (modulo q) (point_of ys h xs) program) k)
      (nth_related (RootR (IsResidue q xs) q ys h) (embed differences h (differences.num 0)) 0
      (embed_root q pos differences (IsResidue q xs) (residue_respects q pos xs) ys h (differences.num 0) 0
      ((residue_respects q pos xs).num 0))
      (values differences h fs (symbols m) program) (run (modulo q) (point_of ys h xs) program)
      (values_root q pos differences (IsResidue q xs) (residue_respects q pos xs) ys h fs (symbols m) xs
      (subst (λ (n : ℕ). Related (IsResidue q xs) (symbols n) xs) l (symbols_residue q xs)) squares_are program)
      k)
      (parts_with (λ a. ev a.0 xs ≡ ev a.1 xs) (λ a. Unit {0}) (λ a. (w : ℕ) → IsResidue q xs a w → w % q ≡ 0 % q)
      (λ a e _ w i.
      cancel q pos w 0 (ev a.1 xs)
      (ap (λ z. z % q) (let t : w + ev a.1 xs ≡ ev a.1 xs + w = omega arith in t) ∙ sym i
      ∙ ap (λ z. z % q) (let t : ev a.0 xs ≡ 0 + ev a.1 xs = omega arith in t)))
      h outcome same (parts_all (λ a. Unit {0}) (λ a. tt) h outcome))

-- a program whose values vanish at a point beyond their coefficients
pub sound : (h : ℕ) (fs program : List Expr) (outs : ℕ) (point : List ℕ)
    → vanish h fs program outs point ≡ true → bounded h fs program outs point ≡ true
    → (q : ℕ) → 0 < q → (xs : List ℕ) → length xs ≡ length point → (ys : ℕ → ℕ)
    → ((j : ℕ) → j < h → (ys j * ys j) % q ≡ eval (modulo q) xs (nth (num 0) fs j) % q)
    → (k : ℕ) → k < outs → nth 0 (run (modulo q) (point_of ys h xs) program) k % q ≡ 0 % q
unfolding bounded
sound h fs program outs point vanishes is_bounded q pos xs l ys squares_are k below =
    zero_residue h fs program outs (length point) k below q pos xs l ys squares_are
    (parts_with (λ a. ev a.0 point ≡ ev a.1 point) (λ a. Small point (λ r. ev a.0 r + ev a.1 r)) (λ a. ev a.0 xs ≡ ev a.1 xs)
    (λ a e s.
    poly_same a.0 a.1 point xs (sym l) (small_less point (λ r. ev a.0 r + ev a.1 r) (ev a.0) (λ r. omega arith) s)
    (small_less point (λ r. ev a.0 r + ev a.1 r) (ev a.1) (λ r. omega arith) s) e)
    h (outcome h fs program outs (length point) k below)
    (same_parts h fs program outs (length point) k below point refl vanishes)
    (small_parts h fs program outs (length point) k below point (λ r. r) (λ r e. e) is_bounded))

-- the polynomial where the first variable is c
at_head : ℕ → Poly → Poly
at_head c (con d) = con d
at_head c (cons a p) = add_poly a (mul_con c (at_head c p))

ev_at_head : (c : ℕ) (p : Poly) (r : List ℕ) → ev (at_head c p) r ≡ ev p (c ∷ r)
unfolding at_head ev head rest
ev_at_head c (con d) r = refl
ev_at_head c (cons a p) r =
    ev_add a (mul_con c (at_head c p)) r
    ∙ ap (λ z. ev a r + z) (ev_mul_con c (at_head c p) r ∙ ap (λ z. c * z) (ev_at_head c p r))

-- as `sound`, where the values vanish at d numbers for the first variable, and have at most d coefficients
pub sound_by_grid : (h : ℕ) (fs program : List Expr) (outs n d : ℕ) (point : ℕ → List ℕ)
    → ((c : ℕ) → length (point c) ≡ n)
    → short h fs program outs n d ≡ true
    → ((c : ℕ) → c < d → vanish h fs program outs (c ∷ point c) ≡ true)
    → ((c : ℕ) → c < d → bounded_at h fs program outs c (point c) ≡ true)
    → (q : ℕ) → 0 < q → (x : ℕ) (xs : List ℕ) → length xs ≡ n → (ys : ℕ → ℕ)
    → ((j : ℕ) → j < h → (ys j * ys j) % q ≡ eval (modulo q) (x ∷ xs) (nth (num 0) fs j) % q)
    → (k : ℕ) → k < outs → nth 0 (run (modulo q) (point_of ys h (x ∷ xs)) program) k % q ≡ 0 % q
unfolding bounded_at
sound_by_grid h fs program outs n d point lens is_short vanishes is_bounded q pos x xs l ys squares_are k below =
    let out = outcome h fs program outs (suc n) k below in
    zero_residue h fs program outs (suc n) k below q pos (x ∷ xs) (ap suc l) ys squares_are
    (parts_with
    (λ a. (c : ℕ) → c < d → ev a.0 (c ∷ xs) ≡ ev a.1 (c ∷ xs))
    (λ a. HasLength d (λ y. ev a.0 (y ∷ xs)) × HasLength d (λ y. ev a.1 (y ∷ xs)))
    (λ a. ev a.0 (x ∷ xs) ≡ ev a.1 (x ∷ xs))
    (λ a f s. agree d (λ y. ev a.0 (y ∷ xs)) (λ y. ev a.1 (y ∷ xs)) s.0 s.1 f x)
    h out
    (parts_each (λ c a. ev a.0 (c ∷ xs) ≡ ev a.1 (c ∷ xs)) d h out
    (λ c cl. parts_with (λ a. ev a.0 (c ∷ point c) ≡ ev a.1 (c ∷ point c))
    (λ a. Small (point c) (λ r. ev a.0 (c ∷ r) + ev a.1 (c ∷ r)))
    (λ a. ev a.0 (c ∷ xs) ≡ ev a.1 (c ∷ xs))
    (λ a e s.
    sym (ev_at_head c a.0 xs)
    ∙ poly_same (at_head c a.0) (at_head c a.1) (point c) xs (lens c ∙ sym l)
    (small_less (point c) (λ r. ev a.0 (c ∷ r) + ev a.1 (c ∷ r)) (ev (at_head c a.0))
    (λ r. let z = ev_at_head c a.0 r in omega arith) s)
    (small_less (point c) (λ r. ev a.0 (c ∷ r) + ev a.1 (c ∷ r)) (ev (at_head c a.1))
    (λ r. let z = ev_at_head c a.1 r in omega arith) s)
    (ev_at_head c a.0 (point c) ∙ e ∙ sym (ev_at_head c a.1 (point c)))
    ∙ ev_at_head c a.1 xs)
    h out
    (same_parts h fs program outs (suc n) k below (c ∷ point c) (ap suc (lens c)) (vanishes c cl))
    (small_parts h fs program outs (suc n) k below (point c) (λ r. c ∷ r) (λ r e. ap suc (e ∙ lens c)) (is_bounded c cl))))
    (short_parts h fs program outs (suc n) k below n d refl xs is_short))
