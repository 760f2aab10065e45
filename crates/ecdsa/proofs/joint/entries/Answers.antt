use Rattle.std.proofs.Common.{◌≡◌, ℕ, zero, suc, ◌<◌, ◌∙◌, ap, arith}
use Rattle.weierstrass.specs.Weierstrass.{Point}
use Rattle.weierstrass.specs.Numbers.{numbers}
use Rattle.weierstrass.specs.declared.entries.Sixteen.{Sixteen}
use Rattle.weierstrass.specs.Group.{spot_point}
use Rattle.weierstrass.specs.private_clauses.Entries.{entry_of, IsEntry}
use Rattle.weierstrass.specs.private_clauses.Formulas.{jacobian_sum, jacobian_times}
use Rattle.ecdsa.proofs.joint.entries.Goals as goal

none : (p : ℕ) (P S : Point) → S ≡ record { x = 1; y = 1; z = 0 } → S ≡ jacobian_times p 0 P
unfolding jacobian_times
none p P S e = e

next : (p n : ℕ) (P S T : Point) → S ≡ jacobian_times p n P → T ≡ jacobian_sum p S P → T ≡ jacobian_times p (suc n) P
unfolding jacobian_times
next p n P S T e f = f ∙ ap (λ (z : Point). jacobian_sum p z P) e

module _ {F : Type 0} (number : F → ℕ) (p : ℕ) (t : Sixteen F)
    (e0 : IsEntry F p number t.zero.zero)
    (e1 : IsEntry F p number t.zero.one)
    (e2 : IsEntry F p number t.zero.two)
    (e3 : IsEntry F p number t.zero.three)
    (e4 : IsEntry F p number t.one.zero)
    (e5 : IsEntry F p number t.one.one)
    (e6 : IsEntry F p number t.one.two)
    (e7 : IsEntry F p number t.one.three)
    (e8 : IsEntry F p number t.two.zero)
    (e9 : IsEntry F p number t.two.one)
    (e10 : IsEntry F p number t.two.two)
    (e11 : IsEntry F p number t.two.three)
    (e12 : IsEntry F p number t.three.zero)
    (e13 : IsEntry F p number t.three.one)
    (e14 : IsEntry F p number t.three.two)
    (e15 : IsEntry F p number t.three.three) where
  all_kept : (k : ℕ) → k < 16 → IsEntry F p number (entry_of t k)
  unfolding entry_of
  all_kept zero l = e0
  all_kept (suc zero) l = e1
  all_kept (suc (suc zero)) l = e2
  all_kept (suc (suc (suc zero))) l = e3
  all_kept (suc (suc (suc (suc zero)))) l = e4
  all_kept (suc (suc (suc (suc (suc zero))))) l = e5
  all_kept (suc (suc (suc (suc (suc (suc zero)))))) l = e6
  all_kept (suc (suc (suc (suc (suc (suc (suc zero))))))) l = e7
  all_kept (suc (suc (suc (suc (suc (suc (suc (suc zero)))))))) l = e8
  all_kept (suc (suc (suc (suc (suc (suc (suc (suc (suc zero))))))))) l = e9
  all_kept (suc (suc (suc (suc (suc (suc (suc (suc (suc (suc zero)))))))))) l = e10
  all_kept (suc (suc (suc (suc (suc (suc (suc (suc (suc (suc (suc zero))))))))))) l = e11
  all_kept (suc (suc (suc (suc (suc (suc (suc (suc (suc (suc (suc (suc zero)))))))))))) l = e12
  all_kept (suc (suc (suc (suc (suc (suc (suc (suc (suc (suc (suc (suc (suc zero))))))))))))) l = e13
  all_kept (suc (suc (suc (suc (suc (suc (suc (suc (suc (suc (suc (suc (suc (suc zero)))))))))))))) l = e14
  all_kept (suc (suc (suc (suc (suc (suc (suc (suc (suc (suc (suc (suc (suc (suc (suc zero))))))))))))))) l = e15
  all_kept (suc (suc (suc (suc (suc (suc (suc (suc (suc (suc (suc (suc (suc (suc (suc (suc k)))))))))))))))) l =
      absurd (omega arith)

module _ {F : Type 0} (number : F → ℕ) (p : ℕ) (P : Point) (t : Sixteen F)
    (h0 : numbers number t.zero.zero.point ≡ record { x = 1; y = 1; z = 0 })
    (h1 : numbers number t.zero.one.point ≡ jacobian_sum p (numbers number t.zero.zero.point) P)
    (h2 : numbers number t.zero.two.point ≡ jacobian_sum p (numbers number t.zero.one.point) P)
    (h3 : numbers number t.zero.three.point ≡ jacobian_sum p (numbers number t.zero.two.point) P)
    (h4 : numbers number t.one.zero.point ≡ jacobian_sum p (numbers number t.zero.three.point) P)
    (h5 : numbers number t.one.one.point ≡ jacobian_sum p (numbers number t.one.zero.point) P)
    (h6 : numbers number t.one.two.point ≡ jacobian_sum p (numbers number t.one.one.point) P)
    (h7 : numbers number t.one.three.point ≡ jacobian_sum p (numbers number t.one.two.point) P)
    (h8 : numbers number t.two.zero.point ≡ jacobian_sum p (numbers number t.one.three.point) P)
    (h9 : numbers number t.two.one.point ≡ jacobian_sum p (numbers number t.two.zero.point) P)
    (h10 : numbers number t.two.two.point ≡ jacobian_sum p (numbers number t.two.one.point) P)
    (h11 : numbers number t.two.three.point ≡ jacobian_sum p (numbers number t.two.two.point) P)
    (h12 : numbers number t.three.zero.point ≡ jacobian_sum p (numbers number t.two.three.point) P)
    (h13 : numbers number t.three.one.point ≡ jacobian_sum p (numbers number t.three.zero.point) P)
    (h14 : numbers number t.three.two.point ≡ jacobian_sum p (numbers number t.three.one.point) P)
    (h15 : numbers number t.three.three.point ≡ jacobian_sum p (numbers number t.three.two.point) P) where
  m0 : numbers number t.zero.zero.point ≡ jacobian_times p 0 P
  m0 = none p P (numbers number t.zero.zero.point) h0

  m1 : numbers number t.zero.one.point ≡ jacobian_times p 1 P
  m1 = next p 0 P (numbers number t.zero.zero.point) (numbers number t.zero.one.point) m0 h1

  m2 : numbers number t.zero.two.point ≡ jacobian_times p 2 P
  m2 = next p 1 P (numbers number t.zero.one.point) (numbers number t.zero.two.point) m1 h2

  m3 : numbers number t.zero.three.point ≡ jacobian_times p 3 P
  m3 = next p 2 P (numbers number t.zero.two.point) (numbers number t.zero.three.point) m2 h3

  m4 : numbers number t.one.zero.point ≡ jacobian_times p 4 P
  m4 = next p 3 P (numbers number t.zero.three.point) (numbers number t.one.zero.point) m3 h4

  m5 : numbers number t.one.one.point ≡ jacobian_times p 5 P
  m5 = next p 4 P (numbers number t.one.zero.point) (numbers number t.one.one.point) m4 h5

  m6 : numbers number t.one.two.point ≡ jacobian_times p 6 P
  m6 = next p 5 P (numbers number t.one.one.point) (numbers number t.one.two.point) m5 h6

  m7 : numbers number t.one.three.point ≡ jacobian_times p 7 P
  m7 = next p 6 P (numbers number t.one.two.point) (numbers number t.one.three.point) m6 h7

  m8 : numbers number t.two.zero.point ≡ jacobian_times p 8 P
  m8 = next p 7 P (numbers number t.one.three.point) (numbers number t.two.zero.point) m7 h8

  m9 : numbers number t.two.one.point ≡ jacobian_times p 9 P
  m9 = next p 8 P (numbers number t.two.zero.point) (numbers number t.two.one.point) m8 h9

  m10 : numbers number t.two.two.point ≡ jacobian_times p 10 P
  m10 = next p 9 P (numbers number t.two.one.point) (numbers number t.two.two.point) m9 h10

  m11 : numbers number t.two.three.point ≡ jacobian_times p 11 P
  m11 = next p 10 P (numbers number t.two.two.point) (numbers number t.two.three.point) m10 h11

  m12 : numbers number t.three.zero.point ≡ jacobian_times p 12 P
  m12 = next p 11 P (numbers number t.two.three.point) (numbers number t.three.zero.point) m11 h12

  m13 : numbers number t.three.one.point ≡ jacobian_times p 13 P
  m13 = next p 12 P (numbers number t.three.zero.point) (numbers number t.three.one.point) m12 h13

  m14 : numbers number t.three.two.point ≡ jacobian_times p 14 P
  m14 = next p 13 P (numbers number t.three.one.point) (numbers number t.three.two.point) m13 h14

  m15 : numbers number t.three.three.point ≡ jacobian_times p 15 P
  m15 = next p 14 P (numbers number t.three.two.point) (numbers number t.three.three.point) m14 h15

  all_sums : (k : ℕ) → k < 16 → numbers number (entry_of t k).point ≡ jacobian_times p k P
  unfolding entry_of
  all_sums zero l = m0
  all_sums (suc zero) l = m1
  all_sums (suc (suc zero)) l = m2
  all_sums (suc (suc (suc zero))) l = m3
  all_sums (suc (suc (suc (suc zero)))) l = m4
  all_sums (suc (suc (suc (suc (suc zero))))) l = m5
  all_sums (suc (suc (suc (suc (suc (suc zero)))))) l = m6
  all_sums (suc (suc (suc (suc (suc (suc (suc zero))))))) l = m7
  all_sums (suc (suc (suc (suc (suc (suc (suc (suc zero)))))))) l = m8
  all_sums (suc (suc (suc (suc (suc (suc (suc (suc (suc zero))))))))) l = m9
  all_sums (suc (suc (suc (suc (suc (suc (suc (suc (suc (suc zero)))))))))) l = m10
  all_sums (suc (suc (suc (suc (suc (suc (suc (suc (suc (suc (suc zero))))))))))) l = m11
  all_sums (suc (suc (suc (suc (suc (suc (suc (suc (suc (suc (suc (suc zero)))))))))))) l = m12
  all_sums (suc (suc (suc (suc (suc (suc (suc (suc (suc (suc (suc (suc (suc zero))))))))))))) l = m13
  all_sums (suc (suc (suc (suc (suc (suc (suc (suc (suc (suc (suc (suc (suc (suc zero)))))))))))))) l = m14
  all_sums (suc (suc (suc (suc (suc (suc (suc (suc (suc (suc (suc (suc (suc (suc (suc zero))))))))))))))) l = m15
  all_sums (suc (suc (suc (suc (suc (suc (suc (suc (suc (suc (suc (suc (suc (suc (suc (suc k)))))))))))))))) l =
      absurd (omega arith)

pub returns-clause-kept : goal.returns-clause-kept
returns-clause-kept g c =
    all_kept g.F.Residue.number g.F.Residue.modulus
    (record {
      zero = c.four_from-zero.result;
      one = c.four_from-one.result;
      two = c.four_from-two.result;
      three = c.four_from-three.result;
    })
    c.four_from-zero.ensures.zero
    c.four_from-zero.ensures.one
    c.four_from-zero.ensures.two
    c.four_from-zero.ensures.three
    c.four_from-one.ensures.zero
    c.four_from-one.ensures.one
    c.four_from-one.ensures.two
    c.four_from-one.ensures.three
    c.four_from-two.ensures.zero
    c.four_from-two.ensures.one
    c.four_from-two.ensures.two
    c.four_from-two.ensures.three
    c.four_from-three.ensures.zero
    c.four_from-three.ensures.one
    c.four_from-three.ensures.two
    c.four_from-three.ensures.three

pub returns-clause-sums : goal.returns-clause-sums
returns-clause-sums g c =
    let n = g.F.Residue.number in
    all_sums n g.F.Residue.modulus (spot_point (n c.args.x) (n c.args.y))
    (record {
      zero = c.four_from-zero.result;
      one = c.four_from-one.result;
      two = c.four_from-two.result;
      three = c.four_from-three.result;
    })
    (ap (numbers n) (c.four_from-zero.ensures.start ∙ c.entry_for.ensures.same) ∙ c.nothing.ensures)
    c.four_from-zero.ensures.one_is
    c.four_from-zero.ensures.two_is
    c.four_from-zero.ensures.three_is
    (ap (numbers n) c.four_from-one.ensures.start ∙ c.following.ensures.sum)
    c.four_from-one.ensures.one_is
    c.four_from-one.ensures.two_is
    c.four_from-one.ensures.three_is
    (ap (numbers n) c.four_from-two.ensures.start ∙ c.following-2.ensures.sum)
    c.four_from-two.ensures.one_is
    c.four_from-two.ensures.two_is
    c.four_from-two.ensures.three_is
    (ap (numbers n) c.four_from-three.ensures.start ∙ c.following-3.ensures.sum)
    c.four_from-three.ensures.one_is
    c.four_from-three.ensures.two_is
    c.four_from-three.ensures.three_is
