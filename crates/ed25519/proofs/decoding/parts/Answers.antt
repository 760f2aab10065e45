use Rattle.std.proofs.Common.{◌≡◌, ◌^◌, ◌%◌, arith}
use Rattle.residues.specs.Bytes.{little_endian}
use Rattle.ed25519.proofs.TopBit.{top_bit}
use Rattle.ed25519.proofs.decoding.parts.Goals as goal

pub returns-in_default : goal.returns-in_default
returns-in_default g c =
    let bs = c.args.bytes.now in
    let parts = top_bit bs c.requires (λ i. let h = c.type_inv.bytes i in omega arith) in
    rw (g.met.F.Field.is_field, c.copy_from_slice.ensures.after, parts.0) at c.in_default.ensures

pub returns : goal.returns
returns g c =
    let bs = c.args.bytes.now in
    let parts = top_bit bs c.requires (λ i. let h = c.type_inv.bytes i in omega arith) in
    let y : g.F.Residue.number c.in-Some.y ≡ little_endian bs % 2 ^ 255 =
    rw (c.copy_from_slice.ensures.after, parts.0) at c.in-Some.ensures in
    let h = c.type_inv.bytes 31 in
    (y, parts.1, omega arith)
