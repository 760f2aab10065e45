-- What is asked of R = [u]G + [v]Q does not see a proportion.
use Rattle.std.proofs.Common.{◌≡◌, ℕ, ◌+◌, ◌-◌, ◌*◌, ◌%◌, ◌<◌, ◌==◌, ◌&&◌, Bool, true, false, List, length, refl, sym}
use Rattle.std.proofs.Common.{ap, ◌∙◌, arith}
use Rattle.std.specs.Prelude.{◌≢◌, ◌↔◌, nat_lt, slice_index}
use Rattle.std.proofs.Math.Nat.{mod-eq_of_lt}
use Rattle.std.proofs.lemmas.Nat.{mod_below}
use Rattle.std.proofs.lemmas.Bool.{eqb-true}
use Rattle.limbs.proofs.Congruences.{add_alike, mul_alike}
use Rattle.residues.specs.Modulo.{plus, minus, times, power}
use Rattle.residues.specs.Bytes.{little_endian}
use Rattle.weierstrass.specs.Weierstrass.{Point, triple, products, sum_of, multiple_of}
use Rattle.algebra.specs.Primes.{IsPrime}
use Rattle.algebra.specs.Inverses.{inverse}
use Rattle.algebra.proofs.PrimeInverses.{power_inverse}
use Rattle.weierstrass.specs.Group.{cubic_at, Alike, IsPoint, spot}
use Rattle.weierstrass.specs.Joint.{IsJoint}
use Rattle.weierstrass.proofs.Field.{unit_cancel, plus_is, times_is, plus_alike, minus_alike}
use Rattle.weierstrass.proofs.PointLemmas.{alike_self, alike_turned}
use Rattle.ecdsa.specs.Ecdsa.{is_on_curve, is_public_key, x_of, y_of, key_point, sum_for, HasX}
use Rattle.ecdsa.specs.private_clauses.Sums.{IsSumFor}

-- 3 x, added up
triple_is : (p x : ℕ) → triple p x % p ≡ times p 3 x % p
unfolding triple
triple_is p x =
    plus_is p (plus p x x) x ∙ add_alike p (plus p x x) (x + x) x x (plus_is p x x) refl
    ∙ ap (λ n. n % p) (let e : x + x + x ≡ 3 * x = omega arith in e) ∙ sym (times_is p 3 x)

last : (a c d e f : Bool) → (a && c && d && e && f) ≡ true → f ≡ true
last true true true true f h = h
last true true true false f h = cc
last true true false e f h = cc
last true false d e f h = cc
last false c d e f h = cc

-- the point of a public key lies on the curve
pub key_is_point : (p b size : ℕ) (public : List ℕ) → is_public_key p b size public ≡ true → IsPoint p b (key_point size public)
unfolding is_public_key is_on_curve key_point cubic_at
key_is_point p b size public h =
    let x = x_of size public in
    let y = y_of size public in
    let on_curve : (times p y y == plus p (minus p (times p x (times p x x)) (triple p x)) b) ≡ true =
    last (length public == 1 + size + size) (slice_index public 0 == 4) (nat_lt x p) (nat_lt y p)
    (times p y y == plus p (minus p (times p x (times p x x)) (triple p x)) b) h in
    let same : times p y y ≡ plus p (minus p (times p x (times p x x)) (triple p x)) b =
    eqb-true (times p y y) (plus p (minus p (times p x (times p x x)) (triple p x)) b) on_curve in
    record {
      shape = spot x y;
      on = sym (times_is p y y) ∙ ap (λ n. n % p) same
          ∙ plus_alike p (minus p (times p x (times p x x)) (triple p x)) (minus p (times p x (times p x x)) (times p 3 x)) b b
          (minus_alike p (times p x (times p x x)) (times p x (times p x x)) (triple p x) (times p 3 x) refl
          (triple_is p x)) refl;
      alike = alike_self p (record { x = x; y = y; z = 1 });
    }

-- x / z of points in proportion
module _ (p : ℕ) (prime : IsPrime p) where
  pos : 0 < p
  pos = let a = prime.above in omega arith

  not_zero : (z : ℕ) → z < p → z ≢ 0 → z % p ≡ 0 % p → ⊥
  not_zero z l n e =
      let f : z % p ≡ z = mod-eq_of_lt l in
      let g : 0 % p ≡ 0 = mod-eq_of_lt pos in
      n (omega arith)

  same_quotient : (l x z x' z' : ℕ) → z < p → z ≢ 0 → z' < p → z' ≢ 0 → x % p ≡ (l * x') % p → z % p ≡ (l * z') % p
      → times p x (inverse p z) ≡ times p x' (inverse p z')
  unfolding times inverse
  same_quotient l x z x' z' b n b' n' ex ez =
      let i = power p z (p - 2) in
      let j = power p z' (p - 2) in
      let one : (z * i) % p ≡ 1 % p = power_inverse p prime z (not_zero z b n) in
      let one' : (z' * j) % p ≡ 1 % p = power_inverse p prime z' (not_zero z' b' n') in
      -- l i is j
      let e1 : (l * i) % p ≡ j % p =
      ap (λ m. m % p) (let k : l * i ≡ l * i * 1 = omega arith in k) ∙ mul_alike p (l * i) (l * i) 1 (z' * j) refl (sym one')
      ∙ ap (λ m. m % p) (let k : l * i * (z' * j) ≡ (l * z') * i * j = omega arith in k)
      ∙ mul_alike p ((l * z') * i) (z * i) j j (mul_alike p (l * z') z i i (sym ez) refl) refl
      ∙ mul_alike p (z * i) 1 j j one refl ∙ ap (λ m. m % p) (let k : 1 * j ≡ j = omega arith in k) in
      mul_alike p x (l * x') i i ex refl ∙ ap (λ m. m % p) (let k : l * x' * i ≡ x' * (l * i) = omega arith in k)
      ∙ mul_alike p x' x' (l * i) j refl e1

  pub x_alike : (n r : ℕ) (R S : Point) → R.z < p → S.z < p → Alike p R S → HasX p n S r → HasX p n R r
  x_alike n r R S b c a h =
      let l = a.factor in
      let finite : R.z ≢ 0 =
      λ e.
      let f : (l * S.z) % p ≡ (l * 0) % p = sym a.is_times.z ∙ ap (λ m. m % p) (let k : R.z ≡ l * 0 = omega arith in k) in
      not_zero S.z c h.finite (unit_cancel p l S.z 0 a.unit f) in
      record {
        finite = finite;
        x = ap (λ m. m % n) (same_quotient l R.x R.z S.x S.z b finite c h.finite a.is_times.x a.is_times.z) ∙ h.x;
      }

-- z of a sum is below the prime
pub sum_below : (p b : ℕ) → 0 < p → (P Q : Point) → (sum_of p b P Q).z < p
unfolding sum_of products plus
sum_below p b pos P Q = mod_below _ p pos

pub sum_for_below : (p n b : ℕ) → 0 < p → (base : Point) (size : ℕ) (key : Point) (e r s : ℕ)
    → (sum_for p n b base size key e r s).z < p
unfolding sum_for
sum_for_below p n b pos base size key e r s =
    let w = inverse n s in
    sum_below p b pos (multiple_of p b (8 * size) (times n e w) base) (multiple_of p b (8 * size) (times n r w) key)

pub from_joint : (p n b : ℕ) (base : Point) (size : ℕ) (key : Point) (e r s w : ℕ) (R : Point) (u v : List ℕ) → w ≡ inverse n s
    → little_endian u ≡ times n e w → little_endian v ≡ times n r w → length u ≡ size → length v ≡ size
    → IsJoint p b u base v key R
    → IsSumFor p n b base size key e r s R
unfolding sum_for
from_joint p n b base size key e r s w R u v ew eu ev lu lv j = record {
  alike = λ curve h k. rw (← ew, ← eu, ← ev) (rw (lu, lv) at (j.alike curve h k));
}

pub has_x_of : (p n b : ℕ) (base : Point) (size : ℕ) (key : Point) (e r s : ℕ) (R : Point) → IsPrime p → R.z < p
    → Alike p R (sum_for p n b base size key e r s) → HasX p n R r ↔ HasX p n (sum_for p n b base size key e r s) r
has_x_of p n b base size key e r s R prime l a =
    let pos : 0 < p = let above = prime.above in omega arith in
    let S = sum_for p n b base size key e r s in
    let m = sum_for_below p n b pos base size key e r s in
    (x_alike p prime n r S R m l (alike_turned p R S a), x_alike p prime n r R S l m a)
