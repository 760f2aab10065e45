use Rattle.std.proofs.Common.{◌≡◌, ℕ, sym, ◌∙◌}
use Rattle.std.proofs.lemmas.Bool.{eq-eqb, ne_eqb}
use Rattle.residues.specs.Modulo.{times}
use Rattle.weierstrass.specs.Weierstrass.{Point, infinity}
use Rattle.weierstrass.specs.Numbers.{numbers}
use Rattle.weierstrass.specs.private_clauses.Formulas.{projective_of}
use Rattle.weierstrass.proofs.jacobian.projective.Goals as goal

none : (p : ℕ) (J P : Point) → J.z ≡ 0 → P ≡ infinity → P ≡ projective_of p J
unfolding projective_of
none p J P e f = rw (eq-eqb J.z 0 e) f

some : (p : ℕ) (J P : Point) → (J.z ≡ 0 → ⊥)
    → P ≡ record { x = times p J.x J.z; y = J.y; z = times p J.z (times p J.z J.z) } → P ≡ projective_of p J
unfolding projective_of
some p J P n e = rw (ne_eqb J.z 0 n) e

pub returns-then-is_same : goal.returns-then-is_same
unfolding numbers
returns-then-is_same g c =
    let n = g.F.Residue.number in
    none g.F.Residue.modulus (numbers n c.args.point) (numbers n c.point_at_infinity.result)
    (c.is_same.ensures.0 c.if-is_same.true ∙ c.zero.ensures) c.point_at_infinity.ensures

pub returns : goal.returns
unfolding numbers
returns g c =
    let n = g.F.Residue.number in
    some g.F.Residue.modulus (numbers n c.args.point) _ (λ e. let f = c.is_same.ensures.1 (e ∙ sym c.zero.ensures) in cc) (cc)
