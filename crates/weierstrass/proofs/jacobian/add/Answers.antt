use Rattle.std.proofs.Common.{sym, ◌∙◌}
use Rattle.weierstrass.specs.Numbers.{numbers}
use Rattle.weierstrass.proofs.JacobianLaw.{is_second, is_first, is_finite}
use Rattle.weierstrass.proofs.jacobian.add.Goals as goal

pub returns-then-is_same : goal.returns-then-is_same
unfolding numbers
returns-then-is_same g c =
    let n = g.F.Residue.number in
    is_second g.F.Residue.modulus (numbers n c.args.one) (numbers n c.args.other) (c.is_same.ensures.0 c.if-is_same.true
    ∙ c.zero.ensures)

pub returns-then-is_same-2 : goal.returns-then-is_same-2
unfolding numbers
returns-then-is_same-2 g c =
    let n = g.F.Residue.number in
    is_first g.F.Residue.modulus (numbers n c.args.one) (numbers n c.args.other)
    (λ e. let f = c.is_same.ensures.1 (e ∙ sym c.zero.ensures) in cc) (c.is_same-2.ensures.0 c.if-is_same-2.true
    ∙ c.zero-2.ensures)

pub returns : goal.returns
unfolding numbers
returns g c =
    let n = g.F.Residue.number in
    c.add_finite.ensures
    ∙ is_finite g.F.Residue.modulus (numbers n c.args.one) (numbers n c.args.other)
    (λ e. let f = c.is_same.ensures.1 (e ∙ sym c.zero.ensures) in cc)
    (λ e. let f = c.is_same-2.ensures.1 (e ∙ sym c.zero-2.ensures) in cc)
