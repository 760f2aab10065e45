use Rattle.std.proofs.Common.{◌≡◌, drop}
use Rattle.std.specs.Prelude.{IfSome, option_and_then, option_map}
use Rattle.json.specs.Tree.{HasNumbers}
use Rattle.json.specs.Value.{value_view}
use Rattle.jwt_c_calls.specs.Members.{value_at}
use Rattle.jwt_c_calls.proofs.members.value_at.Given as goal

abbrev pub invariant-loop-name : goal.invariant-loop-name
invariant-loop-name l = record {
  left : option_and_then (value_at (drop l.name-index l.names)) (option_map (λ v. value_view v.now) l.found)
      ≡ value_at l.names (value_view l.value);
  numbers : HasNumbers (value_view l.value) → IfSome l.found (λ v. HasNumbers (value_view v.now));
}
