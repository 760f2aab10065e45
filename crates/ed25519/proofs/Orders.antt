-- The base point's multiple by the order, computed.
use Rattle.std.proofs.Common.{◌^◌, ◌<◌, refl, lit<}
use Rattle.edwards.specs.Edwards.{Point, neutral, products, sum_of, double_of, step_of, steps_of, multiple_of, AreSame}
use Rattle.residues.specs.Modulo.{plus, minus, times}
use Rattle.edwards.specs.Group.{repeat_of}
use Rattle.edwards.proofs.Laws as L
use Rattle.edwards.proofs.Multiples as G
use Rattle.ed25519.specs.Ed25519.{p, d, base, twice_d, order}
use Rattle.ed25519.specs.Joint.{IsBase}
use Rattle.ed25519.proofs.Curve.{field, curve, IsPoint-base}

abbrev whole : Point
whole = multiple_of p twice_d 253 order base

computed : AreSame p whole neutral
unfolding p d base order twice_d multiple_of steps_of step_of sum_of double_of products neutral plus minus times
computed = record { x = refl; y = refl }

order_below : order < 2 ^ 253
unfolding order
order_below = lit< tt

pub base_is : IsBase
unfolding twice_d
base_is =
    let multiple = G.multiple p d field curve 253 order IsPoint-base order_below in
    record {
      is_point = IsPoint-base;
      order_gone = L.AreSame-trans p d field (repeat_of p twice_d order base) whole neutral multiple.left
          (L.AreSame-sym p d field whole (repeat_of p twice_d order base) multiple.same) computed;
    }
