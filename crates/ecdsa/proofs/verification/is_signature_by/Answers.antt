use Rattle.std.proofs.Common.{◌≡◌, ℕ, List, ap}
use Rattle.weierstrass.specs.Weierstrass.{Point}
use Rattle.weierstrass.specs.declared.points.ProjectivePoint.{ProjectivePoint}
use Rattle.ecdsa.specs.Ecdsa.{key_point}
use Rattle.weierstrass.specs.Numbers.{numbers}
use Rattle.std.specs.Prelude.{◌↔◌, IsTrue}
use Rattle.ecdsa.specs.Ecdsa.{sum_for, HasX}
use Rattle.ecdsa.proofs.Steps.{verdict}
use Rattle.ecdsa.proofs.Proportions.{key_is_point, has_x_of}
use Rattle.weierstrass.specs.Group.{IsPoint, Alike}
use Rattle.ecdsa.proofs.verification.is_signature_by.Goals as goal

pub returns : goal.returns
unfolding numbers
returns g c =
    let f = g.F.Residue.number in
    let n = g.N.Residue.number in
    let r = rw c.split_at.ensures.front at c.in-Some-read_positive.ensures in
    let s = rw c.split_at.ensures.back at c.in-Some-read_positive-2.ensures in
    let p = g.F.Residue.modulus in
    let m = g.N.Residue.modulus in
    let b = g.F.BaseMultiples.b in
    let base = g.F.BaseMultiples.base in
    let tested = rw c.requires.curve at c.in-Some.ensures.0 in
    let key = numbers f c.in-Some.key in
    let e = n c.read_reduced-e.result in
    let i = n c.in-Some-read_positive.r in
    let j = n c.in-Some-read_positive-2.s in
    let R = numbers f c.sum.result in
    let on : IsPoint p b key = rw c.in-Some.ensures.1 (key_is_point p b g.row.S c.args.public.now tested) in
    let alike : Alike p R (sum_for p m b base g.row.S key e i j) =
    c.sum.ensures.alike c.requires.base.curve c.requires.base.point on in
    let below = g.met.F.Residue.number_below c.sum.result.z in
    let iff : HasX p m R i ↔ HasX p m (sum_for p m b base g.row.S key e i j) i =
    has_x_of p m b base g.row.S key e i j R c.requires.base.prime below alike in
    let found : IsTrue c.has_x.result ↔ HasX p m (sum_for p m b base g.row.S key e i j) i =
    (λ t. iff.0 (c.has_x.ensures.0 t), λ h. c.has_x.ensures.1 (iff.1 h)) in
    verdict p m b base g.row.S c.args.public.now c.args.digest.now c.args.signature.now
    (numbers f c.in-Some.key) (n c.read_reduced-e.result) (n c.in-Some-read_positive.r) (n c.in-Some-read_positive-2.s)
    c.has_x.result
    tested c.in-Some.ensures.1 c.if-signature.false c.read_reduced-e.ensures
    r.0 r.1 (g.met.N.Residue.number_below c.in-Some-read_positive.r)
    s.0 s.1 (g.met.N.Residue.number_below c.in-Some-read_positive-2.s)
    found

-- a key's z is 1
z_of : {F : Type 0} (number : F → ℕ) (size : ℕ) (public : List ℕ) (Q : ProjectivePoint F)
    → numbers number Q ≡ key_point size public → number Q.z ≡ 1
unfolding numbers key_point
z_of number size public Q e = ap (λ (R : Point). R.z) e

pub sum-requires-clause-key : goal.sum-requires-clause-key
sum-requires-clause-key g c = z_of g.F.Residue.number g.row.S c.args.public.now c.in-Some.key c.in-Some.ensures.1
