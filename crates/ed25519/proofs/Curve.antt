-- The points of the curve are a group.
use Rattle.std.proofs.Common.{◌≡◌, ℕ, suc, ◌+◌, ◌-◌, ◌/◌, ◌%◌, ◌^◌, ◌<◌, ◌==◌, ◌&&◌, Bool, true, false, cond, Option}
use Rattle.std.proofs.Common.{Some, None, inl, inr, List, refl, ap, subst, ◌∙◌, arith, lit<}
use Rattle.std.proofs.lemmas.Bool.Decides.{eqb_tells}
use Rattle.std.specs.Prelude.{nat_lt}
use Rattle.residues.specs.Modulo.{plus, minus, times, power}
use Rattle.residues.specs.Bytes.{little_endian}
use Rattle.edwards.specs.Edwards.{Point}
use Rattle.algebra.specs.Primes.{IsPrime}
use Rattle.algebra.proofs.Bits.{by_bits, power_is}
use Rattle.algebra.proofs.CurvePrimes.{prime_p25519}
use Rattle.edwards.specs.Group.{Alike, IsField, IsCurve, IsPoint}
use Rattle.edwards.proofs.Curves.{IsField-by, IsCurve-by, IsPoint-by_root, root_turned, root_negative}
use Rattle.ed25519.specs.Ed25519.{p, d, base, twice_d, u_of, v_of, candidate, root_of, signed, point_at, point_of, decoded}
use Rattle.ed25519.proofs.MinusOne.{root_of_minus_one_is}
use Rattle.ed25519.proofs.Roots.{some_same, none_some}

pub prime : IsPrime p
unfolding p
prime = prime_p25519

two_below : 2 < p
unfolding p
two_below = lit< tt

pub field : IsField p
field = IsField-by p prime two_below

pub positive : 0 < p
positive = omega (arith, two_below)

pub half_is : p ≡ suc ((p - 1) / 2 + (p - 1) / 2)
unfolding p
half_is = refl

half_above : 0 < (p - 1) / 2
unfolding p
half_above = lit< tt

half_below : (p - 1) / 2 < 2 ^ 254
unfolding p
half_below = lit< tt

computed : by_bits p d 254 ((p - 1) / 2) ≡ p - 1
unfolding p d by_bits
computed = refl

no_square : power p d ((p - 1) / 2) ≡ p - 1
no_square = power_is p d 254 ((p - 1) / 2) (p - 1) half_below computed

abbrev root : ℕ
root = 0x2b8324804fc1df0b2b4d00993dfbd7a72f431806ad2fe478c4ee1b274a0ea0b0

root_is : times p root root % p ≡ minus p 0 1 % p
unfolding p times minus
root_is = refl

pub curve : IsCurve p d
curve = IsCurve-by p d ((p - 1) / 2) root prime half_is half_above no_square root_is

pub IsPoint-base : IsPoint p d base
unfolding p d base times plus
IsPoint-base = record { finite = λ h. cc; product = refl; equation = refl }

-- the definition's constant
pub twice_d_is : twice_d ≡ times p 2 d
unfolding twice_d
twice_d_is = refl

-- v x^2 = u
abbrev pub IsRoot : ℕ → ℕ → Type 0
IsRoot y x = Alike p (times p (v_of y) (times p x x)) (u_of y)

turned : (y x : ℕ) → times p (v_of y) (times p x x) ≡ minus p 0 (u_of y) → IsRoot y (times p x root)
unfolding u_of v_of
turned y x e = root_turned p d field x y root (ap (λ n. n % p) e) root_is

negative_root : (y x : ℕ) → IsRoot y x → IsRoot y (minus p 0 x)
unfolding u_of v_of
negative_root y x h = root_negative p d field x y ∙ h

-- the root that was found is one
pub root_found : (y x r : ℕ) → root_of (u_of y) (v_of y) x ≡ Some r → IsRoot y r
unfolding root_of
root_found y x r h =
    elim (eqb_tells (times p (v_of y) (times p x x)) (u_of y)) [
      | inl a ↦
          let e : Some x ≡ Some r = rw a.0 at h in
          let same : x ≡ r = some_same e in
          rw (← same) (ap (λ n. n % p) a.1)
      | inr a ↦
          let g = rw a.0 at h in
          elim (eqb_tells (times p (v_of y) (times p x x)) (minus p 0 (u_of y))) [
            | inl b ↦
                let e : Some (times p x (power p 2 ((p - 1) / 4))) ≡ Some r = rw b.0 at g in
                let same : times p x (power p 2 ((p - 1) / 4)) ≡ r = some_same e in
                rw (← same, root_of_minus_one_is) (turned y x b.1)
            | inr b ↦ absurd (let e : None ≡ Some r = rw b.0 at g in cc)
          ]
    ]

-- as is the one of the sign
root_signed : (y x r sign : ℕ) → IsRoot y x → signed sign (Some x) ≡ Some r → IsRoot y r
unfolding signed
root_signed y x r sign is h = refused (x == 0 && sign == 1) (x % 2 == sign) h
  where
    refused : (a b : Bool) → cond a None (cond b (Some x) (Some (minus p 0 x))) ≡ Some r → IsRoot y r
    refused true b e = absurd (none_some e)
    refused false true e = subst (IsRoot y) (some_same e) is
    refused false false e = subst (IsRoot y) (some_same e) (negative_root y x is)

pub IsPoint-found : (y x : ℕ) → IsRoot y x → IsPoint p d (record { x = x; y = y; z = 1; t = times p x y })
unfolding u_of v_of
IsPoint-found y x h = IsPoint-by_root p d field x y h

point_none : (y sign : ℕ) (P : Point) → point_at y (signed sign None) ≡ Some P → ⊥
unfolding point_at signed
point_none y sign P e = none_some e

point_some : (y sign x : ℕ) (P : Point) → IsRoot y x → (o : Option ℕ) → signed sign (Some x) ≡ o → point_at y o ≡ Some P
    → IsPoint p d P
unfolding point_at
point_some y sign x P is None e h = absurd (none_some h)
point_some y sign x P is (Some r) e h = subst (IsPoint p d) (some_same h) (IsPoint-found y r (root_signed y x r sign is e))

point_signed : (y sign : ℕ) (P : Point) (o : Option ℕ) → ((x : ℕ) → o ≡ Some x → IsRoot y x)
    → point_at y (signed sign o) ≡ Some P → IsPoint p d P
point_signed y sign P None found h = absurd (point_none y sign P h)
point_signed y sign P (Some x) found h = point_some y sign x P (found x refl) (signed sign (Some x)) refl h

-- what was decoded is a point of the curve
pub IsPoint-decoded : (bytes : List ℕ) (P : Point) → decoded bytes ≡ Some P → IsPoint p d P
unfolding decoded point_of
IsPoint-decoded bytes P h = below (little_endian bytes % 2 ^ 255) (little_endian bytes / 2 ^ 255)
    (nat_lt (little_endian bytes % 2 ^ 255) p) h
  where
    below : (y sign : ℕ) (b : Bool)
        → cond b (point_at y (signed sign (root_of (u_of y) (v_of y) (candidate (u_of y) (v_of y))))) None ≡ Some P
        → IsPoint p d P
    below y sign true e = point_signed y sign P _ (λ x f. root_found y (candidate (u_of y) (v_of y)) x f) e
    below y sign false e = absurd (none_some e)
