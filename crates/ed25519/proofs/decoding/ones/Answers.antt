use Rattle.residues.proofs.Powers.{power_one}
use Rattle.ed25519.proofs.decoding.ones.Goals as goal

pub returns : goal.returns
returns g c =
    let x = g.F.Residue.number c.args.base in
    let one = power_one g.F.Residue.modulus x (g.met.F.Residue.number_below c.args.base) in
    let a2 = c.raise-ones_2.ensures x 1 1 one one in
    let a4 = c.raise-ones_4.ensures x 3 3 a2 a2 in
    let a5 = c.raise-ones_5.ensures x 15 1 a4 one in
    let a10 = c.raise-ones_10.ensures x 31 31 a5 a5 in
    let a20 = c.raise-ones_20.ensures x 1023 1023 a10 a10 in
    let a40 = c.raise-ones_40.ensures x 1048575 1048575 a20 a20 in
    rw g.met.F.Field.is_field at (c.raise.ensures x 1099511627775 1023 a40 a10)
