use Rattle.std.proofs.Common.{◌-◌, arith}
use Rattle.edwards.specs.Factors.{affine_numbers}
use Rattle.ed25519.proofs.BaseTable.{IsRow-at}
use Rattle.ed25519.proofs.base_table.base_addend.Goals as goal

pub returns : goal.returns
unfolding affine_numbers
returns c =
    let row = IsRow-at c.args.digit (c.args.digit - 1) (let h = c.requires.some in omega arith)
    (let h = c.requires.few in omega arith) in
    rw (c.from_parts.ensures, c.from_parts-2.ensures, c.from_parts-3.ensures, c.from.ensures) row.prepared
