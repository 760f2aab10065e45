-- The group, put together.
use Rattle.std.proofs.Common.{ℕ}
use Rattle.weierstrass.specs.Weierstrass.{infinity}
use Rattle.weierstrass.specs.Group.{IsCurve, IsGroup}
use Rattle.weierstrass.proofs.Sums.{pos, sum_alike, sum_turned}
use Rattle.weierstrass.proofs.Law.{sum_point, sum_grouped, sum_neutral}
use Rattle.weierstrass.proofs.Inverse.{opposite_point, opposite_alike, sum_opposite}
use Rattle.weierstrass.proofs.ChordTangent.{sum_by_chord, sum_by_tangent}
use Rattle.weierstrass.proofs.Multiples.{multiple_is, multiples_sum}

pub group : (p b : ℕ) → IsCurve p b → IsGroup p b
unfolding infinity
group p b curve = record {
  sum_closed = sum_point p b curve;
  opposite_closed = opposite_point p b curve;
  sum_respects = sum_alike p (pos p b curve) b;
  opposite_respects = opposite_alike p b curve;
  associative = sum_grouped p b curve;
  commutative = sum_turned p b;
  neutral_right = sum_neutral p b curve;
  inverse_right = sum_opposite p b curve;
  chord = sum_by_chord p b curve;
  tangent = sum_by_tangent p b curve;
  multiple_same = multiple_is p b curve;
  multiples_add = multiples_sum p b curve;
}
