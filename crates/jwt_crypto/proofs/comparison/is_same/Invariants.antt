use Rattle.std.proofs.Common.{◌≡◌, ◌↔◌, take}
use Rattle.jwt_crypto.proofs.comparison.is_same.Given as goal

abbrev pub invariant-loop-i : goal.invariant-loop-i
invariant-loop-i l = (l.difference ≡ 0) ↔ (take l.i l.given ≡ take l.i l.expected)
