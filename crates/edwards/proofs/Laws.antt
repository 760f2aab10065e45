-- The points of the curve are a group.
use Rattle.std.proofs.Common.{◌≡◌, ℕ, ◌+◌, ◌-◌, ◌*◌, ◌%◌, ◌<◌, ◌⊎◌, inl, inr, [], ◌∷◌, refl, sym, ap, ◌∙◌, arith}
use Rattle.std.proofs.Math.Nat.{mod-mod, mod-eq_of_lt}
use Rattle.residues.specs.Modulo.{plus, minus, times}
use Rattle.edwards.specs.Edwards.{Point, neutral, products, sum_of, double_of, AreSame}
use Rattle.algebra.proofs.Terms.{value, at}
use Rattle.algebra.proofs.Polynomials.{follows, minus_none}
use Rattle.edwards.specs.Group.{Alike, IsField, IsCurve, IsPoint, negative_of}
use Rattle.edwards.proofs.Identities as I

-- the factors of a sum's coordinates, X = E * F, Y = G * H, Z = F * G, T = E * H
abbrev e_of : (p : ℕ) → Point → Point → ℕ
e_of p P Q = minus p (times p (plus p P.y P.x) (plus p Q.y Q.x)) (times p (minus p P.y P.x) (minus p Q.y Q.x))

abbrev f_of : (p k : ℕ) → Point → Point → ℕ
f_of p k P Q = minus p (times p (plus p P.z P.z) Q.z) (times p (times p P.t k) Q.t)

abbrev g_of : (p k : ℕ) → Point → Point → ℕ
g_of p k P Q = plus p (times p (plus p P.z P.z) Q.z) (times p (times p P.t k) Q.t)

abbrev h_of : (p : ℕ) → Point → Point → ℕ
h_of p P Q = plus p (times p (plus p P.y P.x) (plus p Q.y Q.x)) (times p (minus p P.y P.x) (minus p Q.y Q.x))

-- three points, d and the root of -1
abbrev pub env : Point → Point → Point → (d r : ℕ) → ℕ → ℕ
env P Q R d r = at (P.x ∷ P.y ∷ P.z ∷ P.t ∷ Q.x ∷ Q.y ∷ Q.z ∷ Q.t ∷ R.x ∷ R.y ∷ R.z ∷ R.t ∷ d ∷ r ∷ [])

abbrev pub four : (x y z t : ℕ) → Point
four x y z t = record { x = x; y = y; z = z; t = t }

abbrev pub nil : Point
nil = four 0 0 0 0

module _ (p d : ℕ) (field : IsField p) where
  positive : 0 < p
  positive = omega (arith, field.above_two)

  -- 2 * d
  abbrev pub twice_of : ℕ
  twice_of = times p 2 d

  abbrev pub sum : Point → Point → Point
  sum P Q = sum_of p twice_of P Q

  exact_times : (a b c e : ℕ) → Alike p (times p a b) (times p c e) → times p a b ≡ times p c e
  unfolding times
  exact_times a b c e h = sym (mod-mod (a * b) p) ∙ h ∙ mod-mod (c * e) p

  exact_plus : (a b c e : ℕ) → Alike p (plus p a b) (plus p c e) → plus p a b ≡ plus p c e
  unfolding plus
  exact_plus a b c e h = sym (mod-mod (a + b) p) ∙ h ∙ mod-mod (c + e) p

  exact_minus : (a b c e : ℕ) → Alike p (minus p a b) (minus p c e) → minus p a b ≡ minus p c e
  unfolding minus
  exact_minus a b c e h = sym (mod-mod (a + (p - b % p)) p) ∙ h ∙ mod-mod (c + (p - e % p)) p

  alike : (a b : ℕ) → a ≡ b → Alike p a b
  alike a b e = ap (λ n. n % p) e

  -- a factor of 0 is 0
  a_factor : (a b : ℕ) → Alike p (times p a b) 0 → Alike p a 0 ⊎ Alike p b 0
  unfolding times
  a_factor a b h = field.factor a b (sym (mod-mod (a * b) p) ∙ h)

  other_factor : (a b : ℕ) → (Alike p a 0 → ⊥) → Alike p (times p a b) 0 → Alike p b 0
  other_factor a b n h = elim (a_factor a b h) [ inl l ↦ absurd (n l) | inr r ↦ r ]

  pub apart_times : (a b : ℕ) → (Alike p a 0 → ⊥) → (Alike p b 0 → ⊥) → Alike p (times p a b) 0 → ⊥
  apart_times a b m n h = n (other_factor a b m h)

  pub cancel : (c a b : ℕ) → (Alike p c 0 → ⊥) → Alike p (times p c a) (times p c b) → Alike p a b
  unfolding value
  cancel c a b n h =
      minus_none p positive a b
      (other_factor c (minus p a b) n
      (follows p positive I.less_same_left I.less_same_right I.less_same_lines (env (four c a b 0) nil nil 0 0)
      I.less_same (h, tt)))

  eight : Alike p 8 0 → ⊥
  eight h = elim (field.factor 2 4 h) [
    | inl l ↦ field.two l
    | inr r ↦ elim
        (field.factor 2 2 r) [ inl l ↦ field.two l | inr l ↦ field.two l ]
  ]

  same_products : (e f g h e' f' g' h' : ℕ) → Alike p (times p e g') (times p e' g) → Alike p (times p h f') (times p h' f)
      → AreSame p (products p e f g h) (products p e' f' g' h')
  unfolding products value
  same_products e f g h e' f' g' h' x y =
      let v : ℕ → ℕ = env (four e f g h) (four e' f' g' h') nil 0 0 in
      record {
        x = exact_times _ _ _ _ (follows p positive I.ratio_x_left I.ratio_x_right I.ratio_x_lines v I.ratio_x (x, tt));
        y = exact_times _ _ _ _ (follows p positive I.ratio_y_left I.ratio_y_right I.ratio_y_lines v I.ratio_y (y, tt));
      }

  assoc_x : (P Q R : Point) → IsPoint p d P → IsPoint p d Q → IsPoint p d R
      → Alike p (times p (e_of p (sum P Q) R) (g_of p twice_of P (sum Q R)))
      (times p (e_of p P (sum Q R)) (g_of p twice_of (sum P Q) R))
  unfolding sum_of products value
  assoc_x P Q R a b c =
      follows p positive I.assoc_x_left I.assoc_x_right I.assoc_x_lines (env P Q R d 0) I.assoc_x
      (a.product, (a.equation, (b.product, (b.equation, (c.product, (c.equation, tt))))))

  assoc_y : (P Q R : Point) → IsPoint p d P → IsPoint p d Q → IsPoint p d R
      → Alike p (times p (h_of p (sum P Q) R) (f_of p twice_of P (sum Q R)))
      (times p (h_of p P (sum Q R)) (f_of p twice_of (sum P Q) R))
  unfolding sum_of products value
  assoc_y P Q R a b c =
      follows p positive I.assoc_y_left I.assoc_y_right I.assoc_y_lines (env P Q R d 0) I.assoc_y
      (a.product, (a.equation, (b.product, (b.equation, (c.product, (c.equation, tt))))))

  pub associative : (P Q R : Point) → IsPoint p d P → IsPoint p d Q → IsPoint p d R
      → AreSame p (sum (sum P Q) R) (sum P (sum Q R))
  unfolding sum_of
  associative P Q R a b c = same_products _ _ _ _ _ _ _ _ (assoc_x P Q R a b c) (assoc_y P Q R a b c)

  swapped_e : (P Q : Point) → e_of p P Q ≡ e_of p Q P
  unfolding value
  swapped_e P Q = exact_minus _ _ _ _ (follows p positive I.swap_e_left I.swap_e_right I.swap_e_lines
      (env P Q nil d 0) I.swap_e tt)

  swapped_f : (P Q : Point) → f_of p twice_of P Q ≡ f_of p twice_of Q P
  unfolding value
  swapped_f P Q = exact_minus _ _ _ _ (follows p positive I.swap_f_left I.swap_f_right I.swap_f_lines
      (env P Q nil d 0) I.swap_f tt)

  swapped_g : (P Q : Point) → g_of p twice_of P Q ≡ g_of p twice_of Q P
  unfolding value
  swapped_g P Q = exact_plus _ _ _ _ (follows p positive I.swap_g_left I.swap_g_right I.swap_g_lines
      (env P Q nil d 0) I.swap_g tt)

  swapped_h : (P Q : Point) → h_of p P Q ≡ h_of p Q P
  unfolding value
  swapped_h P Q = exact_plus _ _ _ _ (follows p positive I.swap_h_left I.swap_h_right I.swap_h_lines
      (env P Q nil d 0) I.swap_h tt)

  -- the very same numbers
  pub commutative : (P Q : Point) → sum P Q ≡ sum Q P
  unfolding sum_of
  commutative P Q =
      ap (λ e. products p e (f_of p twice_of P Q) (g_of p twice_of P Q) (h_of p P Q)) (swapped_e P Q)
      ∙ ap (λ f. products p (e_of p Q P) f (g_of p twice_of P Q) (h_of p P Q)) (swapped_f P Q)
      ∙ ap (λ g. products p (e_of p Q P) (f_of p twice_of Q P) g (h_of p P Q)) (swapped_g P Q)
      ∙ ap (λ h. products p (e_of p Q P) (f_of p twice_of Q P) (g_of p twice_of Q P) h) (swapped_h P Q)

  pub neutral_right : (P : Point) → AreSame p (sum P neutral) P
  unfolding sum_of products neutral value
  neutral_right P = record {
    x = exact_times _ _ _ _ (follows p positive I.neutral_x_left I.neutral_x_right I.neutral_x_lines
        (env P nil nil d 0) I.neutral_x tt);
    y = exact_times _ _ _ _ (follows p positive I.neutral_y_left I.neutral_y_right I.neutral_y_lines
        (env P nil nil d 0) I.neutral_y tt);
  }

  pub inverse_right : (P : Point) → IsPoint p d P → AreSame p (sum P (negative_of p P)) neutral
  unfolding sum_of products neutral negative_of value
  inverse_right P a = record {
    x = exact_times _ _ _ _ (follows p positive I.inverse_x_left I.inverse_x_right I.inverse_x_lines
        (env P nil nil d 0) I.inverse_x tt);
    y = exact_times _ _ _ _ (follows p positive I.inverse_y_left I.inverse_y_right I.inverse_y_lines
        (env P nil nil d 0) I.inverse_y (a.product, (a.equation, tt)));
  }

  one-apart : Alike p 1 0 → ⊥
  one-apart h =
      let above = field.above_two in
      let one : 1 % p ≡ 1 = mod-eq_of_lt (omega arith) in
      let none : 0 % p ≡ 0 = mod-eq_of_lt (omega arith) in
      absurd (omega arith)

  pub IsPoint-neutral : IsPoint p d neutral
  unfolding neutral value
  IsPoint-neutral = record {
    finite = one-apart;
    product = refl;
    equation = follows p positive I.neutral_equation_left I.neutral_equation_right I.neutral_equation_lines
        (env nil nil nil d 0) I.neutral_equation tt;
  }

  pub IsPoint-negative : (P : Point) → IsPoint p d P → IsPoint p d (negative_of p P)
  unfolding negative_of value
  IsPoint-negative P a = record {
    finite = a.finite;
    product = follows p positive I.inverse_product_left I.inverse_product_right I.inverse_product_lines
        (env P nil nil d 0) I.inverse_product (a.product, (a.equation, tt));
    equation = follows p positive I.inverse_equation_left I.inverse_equation_right I.inverse_equation_lines
        (env P nil nil d 0) I.inverse_equation (a.product, (a.equation, tt));
  }

  pub AreSame-refl : (P : Point) → AreSame p P P
  AreSame-refl P = record { x = refl; y = refl }

  pub AreSame-sym : (P Q : Point) → AreSame p P Q → AreSame p Q P
  AreSame-sym P Q s = record { x = sym s.x; y = sym s.y }

  along : (x1 z1 x2 z2 x3 z3 : ℕ) → (Alike p z2 0 → ⊥) → times p x1 z2 ≡ times p x2 z1 → times p x2 z3 ≡ times p x3 z2
      → times p x1 z3 ≡ times p x3 z1
  unfolding value
  along x1 z1 x2 z2 x3 z3 n e f =
      exact_times _ _ _ _
      (cancel z2 (times p x1 z3) (times p x3 z1) n
      (follows p positive I.along_left I.along_right I.along_lines
      (env (four x1 0 z1 0) (four x2 0 z2 0) (four x3 0 z3 0) d 0) I.along
      (alike _ _ e, (alike _ _ f, tt))))

  pub AreSame-trans : (P Q R : Point) → IsPoint p d Q → AreSame p P Q → AreSame p Q R → AreSame p P R
  AreSame-trans P Q R b s t = record {
    x = along P.x P.z Q.x Q.z R.x R.z b.finite s.x t.x;
    y = along P.y P.z Q.y Q.z R.y R.z b.finite s.y t.y;
  }

  same_t : (P Q : Point) → IsPoint p d P → IsPoint p d Q → AreSame p P Q → Alike p (times p P.t Q.z) (times p Q.t P.z)
  unfolding value
  same_t P Q a b s =
      cancel (times p P.z Q.z) _ _ (apart_times P.z Q.z a.finite b.finite)
      (follows p positive I.same_t_left I.same_t_right I.same_t_lines (env P Q nil d 0) I.same_t
      (a.product, (a.equation, (b.product, (b.equation, (alike _ _ s.x, (alike _ _ s.y, tt)))))))

  same_x : (P Q R : Point) → IsPoint p d P → IsPoint p d Q → AreSame p P Q
      → Alike p (times p (e_of p P R) (g_of p twice_of Q R)) (times p (e_of p Q R) (g_of p twice_of P R))
  unfolding value
  same_x P Q R a b s =
      cancel (times p P.z Q.z) _ _ (apart_times P.z Q.z a.finite b.finite)
      (follows p positive I.same_x_left I.same_x_right I.same_x_lines (env P Q R d 0) I.same_x
      (alike _ _ s.x, (alike _ _ s.y, (same_t P Q a b s, tt))))

  same_y : (P Q R : Point) → IsPoint p d P → IsPoint p d Q → AreSame p P Q
      → Alike p (times p (h_of p P R) (f_of p twice_of Q R)) (times p (h_of p Q R) (f_of p twice_of P R))
  unfolding value
  same_y P Q R a b s =
      cancel (times p P.z Q.z) _ _ (apart_times P.z Q.z a.finite b.finite)
      (follows p positive I.same_y_left I.same_y_right I.same_y_lines (env P Q R d 0) I.same_y
      (alike _ _ s.x, (alike _ _ s.y, (same_t P Q a b s, tt))))

  pub same_left : (P Q R : Point) → IsPoint p d P → IsPoint p d Q → AreSame p P Q → AreSame p (sum P R) (sum Q R)
  unfolding sum_of
  same_left P Q R a b s = same_products _ _ _ _ _ _ _ _ (same_x P Q R a b s) (same_y P Q R a b s)

  pub same_right : (P Q R : Point) → IsPoint p d P → IsPoint p d Q → AreSame p P Q → AreSame p (sum R P) (sum R Q)
  same_right P Q R a b s = rw (commutative R P, commutative R Q) (same_left P Q R a b s)

  pub same_negative : (P Q : Point) → AreSame p P Q → AreSame p (negative_of p P) (negative_of p Q)
  unfolding negative_of value
  same_negative P Q s = record {
    x = exact_times _ _ _ _ (follows p positive I.inverse_same_x_left I.inverse_same_x_right I.inverse_same_x_lines
        (env P Q nil d 0) I.inverse_same_x (alike _ _ s.x, tt));
    y = s.y;
  }

  module _ (curve : IsCurve p d) where
    either : (t b : ℕ) → Alike p (times p 2 (times p t b)) 0 → Alike p t 0 ⊎ Alike p b 0
    either t b h = a_factor t b (other_factor 2 (times p t b) field.two h)

    -- no factor of a sum's Z is 0
    f-apart : (P Q : Point) → IsPoint p d P → IsPoint p d Q → Alike p (f_of p twice_of P Q) 0 → ⊥
    unfolding value
    f-apart P Q a b w =
        let v : ℕ → ℕ = env P Q nil d curve.root in
        let one = curve.nonsquare _ _ (follows p positive I.complete_plus_one_left I.complete_plus_one_right
        I.complete_plus_one_lines v I.complete_plus_one
        (a.product, (a.equation, (b.product, (b.equation, (curve.root_is, (w, tt))))))) in
        let other = curve.nonsquare _ _ (follows p positive I.complete_plus_other_left I.complete_plus_other_right
        I.complete_plus_other_lines v I.complete_plus_other
        (a.product, (a.equation, (b.product, (b.equation, (curve.root_is, (w, tt))))))) in
        let first : Alike p P.t 0 → ⊥ = λ t. apart_times 2 (times p P.z Q.z) field.two (apart_times P.z Q.z a.finite b.finite)
        (follows p positive I.first_plus_left I.first_plus_right I.first_plus_lines v I.first_plus (t, (w, tt))) in
        let second : Alike p (plus p (times p curve.root Q.x) Q.y) 0 → Alike p (minus p (times p curve.root Q.x) Q.y) 0 → ⊥ =
        λ s t. apart_times 8 (times p P.z (times p Q.z Q.z)) eight
        (apart_times P.z (times p Q.z Q.z) a.finite (apart_times Q.z Q.z b.finite b.finite))
        (follows p positive I.second_plus_left I.second_plus_right I.second_plus_lines v I.second_plus (
          b.product,
          (curve.root_is, (w, (s, (t, tt)))),
        )) in
        elim (either P.t _ one) [
          | inl t ↦ first t
          | inr s ↦ elim (either P.t _ other) [ inl t ↦ first t | inr t ↦ second s t ]
        ]

    g-apart : (P Q : Point) → IsPoint p d P → IsPoint p d Q → Alike p (g_of p twice_of P Q) 0 → ⊥
    unfolding value
    g-apart P Q a b w =
        let v : ℕ → ℕ = env P Q nil d curve.root in
        let one = curve.nonsquare _ _ (follows p positive I.complete_minus_one_left I.complete_minus_one_right
        I.complete_minus_one_lines v I.complete_minus_one
        (a.product, (a.equation, (b.product, (b.equation, (curve.root_is, (w, tt))))))) in
        let other = curve.nonsquare _ _ (follows p positive I.complete_minus_other_left I.complete_minus_other_right
        I.complete_minus_other_lines v I.complete_minus_other
        (a.product, (a.equation, (b.product, (b.equation, (curve.root_is, (w, tt))))))) in
        let first : Alike p P.t 0 → ⊥ = λ t. apart_times 2 (times p P.z Q.z) field.two (apart_times P.z Q.z a.finite b.finite)
        (follows p positive I.first_minus_left I.first_minus_right I.first_minus_lines v I.first_minus (t, (w, tt))) in
        let second : Alike p (plus p (times p curve.root Q.x) Q.y) 0 → Alike p (minus p (times p curve.root Q.x) Q.y) 0 → ⊥ =
        λ s t. apart_times 8 (times p P.z (times p Q.z Q.z)) eight
        (apart_times P.z (times p Q.z Q.z) a.finite (apart_times Q.z Q.z b.finite b.finite))
        (follows p positive I.second_minus_left I.second_minus_right I.second_minus_lines v I.second_minus (
          b.product,
          (curve.root_is, (w, (s, (t, tt)))),
        )) in
        elim (either P.t _ one) [
          | inl t ↦ first t
          | inr s ↦ elim (either P.t _ other) [ inl t ↦ first t | inr t ↦ second s t ]
        ]

    pub IsPoint-sum : (P Q : Point) → IsPoint p d P → IsPoint p d Q → IsPoint p d (sum P Q)
    unfolding sum_of products value
    IsPoint-sum P Q a b = record {
      finite = apart_times (f_of p twice_of P Q) (g_of p twice_of P Q) (f-apart P Q a b) (g-apart P Q a b);
      product = follows p positive I.sum_product_left I.sum_product_right I.sum_product_lines
          (env P Q nil d 0) I.sum_product tt;
      equation = follows p positive I.sum_equation_left I.sum_equation_right I.sum_equation_lines
          (env P Q nil d 0) I.sum_equation
          (a.product, (a.equation, (b.product, (b.equation, tt))));
    }

    pub double_same : (P : Point) → IsPoint p d P → AreSame p (double_of p P) (sum P P)
    unfolding sum_of double_of value
    double_same P a =
        same_products _ _ _ _ _ _ _ _
        (follows p positive I.double_x_left I.double_x_right I.double_x_lines (env P nil nil d 0) I.double_x (
          a.product,
          (a.equation, tt),
        ))
        (follows p positive I.double_y_left I.double_y_right I.double_y_lines (env P nil nil d 0) I.double_y (
          a.product,
          (a.equation, tt),
        ))

    pub IsPoint-double : (P : Point) → IsPoint p d P → IsPoint p d (double_of p P)
    unfolding double_of products value
    IsPoint-double P a = record {
      finite = apart_times _ _
          (λ h. f-apart P P a a (follows p positive I.double_f_none_left I.double_f_none_right I.double_f_none_lines
          (env P nil nil d 0) I.double_f_none (a.product, (a.equation, (h, tt)))))
          (λ h. g-apart P P a a (follows p positive I.double_g_none_left I.double_g_none_right I.double_g_none_lines
          (env P nil nil d 0) I.double_g_none (a.product, (a.equation, (h, tt)))));
      product = follows p positive I.double_product_left I.double_product_right I.double_product_lines
          (env P nil nil d 0) I.double_product tt;
      equation = follows p positive I.double_equation_left I.double_equation_right I.double_equation_lines
          (env P nil nil d 0) I.double_equation (a.product, (a.equation, tt));
    }
