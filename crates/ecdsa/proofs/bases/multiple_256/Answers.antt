use Rattle.std.proofs.Common.{◌-◌, lit<, arith}
use Rattle.ecdsa.specs.Moduli.{field_256_is}
use Rattle.ecdsa.proofs.Tables.{x_256-lt, y_256-lt, multiple_at_256}
use Rattle.ecdsa.proofs.bases.multiple_256.Goals as goal

pub from_form-requires : goal.from_form-requires
from_form-requires c =
    let below = x_256-lt (c.args.digit - 1) (let s = c.requires.some in let h = c.requires.few in omega arith) in
    (lit< tt, (lit< tt, rw (c.four_limbs.ensures, c.from.ensures, field_256_is) below))

pub from_form-requires-2 : goal.from_form-requires-2
from_form-requires-2 c =
    let below = y_256-lt (c.args.digit - 1) (let s = c.requires.some in let h = c.requires.few in omega arith) in
    (lit< tt, (lit< tt, rw (c.four_limbs-2.ensures, c.from.ensures, field_256_is) below))

pub returns : goal.returns
returns c =
    let multiple = multiple_at_256 c.args.digit (c.args.digit - 1) (let s = c.requires.some in omega arith)
    (let s = c.requires.some in let h = c.requires.few in omega arith) in
    rw (
      c.from_form.ensures,
      c.from_form-2.ensures,
      c.four_limbs.ensures,
      c.four_limbs-2.ensures,
      c.from.ensures,
      field_256_is,
    ) multiple
