use Rattle.std.proofs.Common.{◌∙◌, refl}
use Rattle.std.proofs.lemmas.Bool.{lt-leb}
use Rattle.jwt_rsa.proofs.KeyTests.{exponent_refused, exponent_taken, exponent_below}
use Rattle.jwt_rsa.proofs.key.exponent_of.Goals as goal
use Rattle.jwt_rsa.proofs.key.exponent_of.Goals.{then-exponent-ge3, else-exponent-ge3}

pub returns-then-octets-gt8 : goal.returns-then-octets-gt8
returns-then-octets-gt8 c =
    let e = c.significant-octets.ensures in
    rw (exponent_refused c.args.e.now c.significant-octets.result.now e.bits e.front (e.octets 0) c.if-octets-gt8.true) refl

pub returns : goal.returns
returns c =
    let e = c.significant-octets.ensures in
    let s = c.significant-octets.result.now in
    let is = c.limb_from_octets-exponent.ensures ∙ e.number in
    elim c.if-exponent-ge3.branch [
      | then-exponent-ge3 w ↦ c.then_some.ensures
          ∙ exponent_taken c.args.e.now s _ _ e.bits e.front (e.octets 0) c.if-octets-gt8.false is
          w.if-exponent-ge3.true w.then_some-is
      | else-exponent-ge3 w ↦ c.then_some.ensures
          ∙ exponent_below c.args.e.now s _ _ e.bits e.front (e.octets 0) c.if-octets-gt8.false is w.if-exponent-ge3.false
          (w.then_some-is ∙ lt-leb 3 _ w.if-exponent-ge3.false)
    ]
