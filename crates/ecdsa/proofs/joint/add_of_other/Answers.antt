use Rattle.weierstrass.specs.Numbers.{numbers}
use Rattle.weierstrass.proofs.JacobianWindows.{second_joint}
use Rattle.ecdsa.proofs.joint.add_of_other.Goals as goal

pub returns : goal.returns
returns g c = λ P m n t h.
    let p = g.F.Residue.modulus in
    let b = g.F.BaseMultiples.b in
    let f = g.F.Residue.number in
    second_joint p b m n c.args.digit g.F.BaseMultiples.base P (numbers f c.entry_at.result.point) (numbers f c.args.start) _ h
    (rw c.entry_at.ensures (t c.args.digit c.requires.few))
    c.add_entry.ensures
