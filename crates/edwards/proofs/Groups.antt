-- The group, put together.
use Rattle.std.proofs.Common.{ℕ}
use Rattle.edwards.specs.Group.{IsField, IsCurve, IsGroup}
use Rattle.edwards.proofs.Laws as L
use Rattle.edwards.proofs.Multiples as G

pub group : (p d : ℕ) → IsField p → IsCurve p d → IsGroup p d
group p d field curve = record {
  sum_closed = L.IsPoint-sum p d field curve;
  double_closed = L.IsPoint-double p d field curve;
  negative_closed = L.IsPoint-negative p d field;
  neutral_closed = L.IsPoint-neutral p d field;
  same_reflexive = L.AreSame-refl p d field;
  same_symmetric = L.AreSame-sym p d field;
  same_transitive = L.AreSame-trans p d field;
  sum_respects = L.same_left p d field;
  negative_respects = L.same_negative p d field;
  associative = L.associative p d field;
  commutative = L.commutative p d field;
  neutral_right = L.neutral_right p d field;
  inverse_right = L.inverse_right p d field;
  double_same = L.double_same p d field curve;
  multiple_same = λ P count n a h. (G.multiple p d field curve count n a h).same;
  repeat_plus = λ P i j a. (G.repeat_plus p d field curve i j a).same;
  repeat_times = λ P i j a. (G.repeat_times p d field curve i j a).same;
  repeat_sum = λ P Q n a b. (G.repeat_sum p d field curve n a b).same;
}
