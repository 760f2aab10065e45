use Rattle.residues.proofs.Powers.{power_one}
use Rattle.ed25519.proofs.Chains.{exponent_is}
use Rattle.ed25519.proofs.decoding.root_power.Goals as goal

pub returns : goal.returns
returns g c =
    let f = g.met.F.Field.is_field in
    let x = g.F.Residue.number c.args.base in
    let one = power_one g.F.Residue.modulus x (g.met.F.Residue.number_below c.args.base) in
    let a50 = rw (← f) at c.ones-ones_50.ensures in
    let a100 = c.raise-ones_100.ensures x 1125899906842623 1125899906842623 a50 a50 in
    let a200 = c.raise-ones_200.ensures x 1267650600228229401496703205375 1267650600228229401496703205375 a100 a100 in
    let a250 = c.raise-ones_250.ensures x 1606938044258990275541962092341162602522202993782792835301375 1125899906842623
    a200 a50 in
    rw exponent_is (rw f at (c.raise.ensures x
    1809251394333065553493296640760748560207343510400633813116524750123642650623 1 a250 one))
