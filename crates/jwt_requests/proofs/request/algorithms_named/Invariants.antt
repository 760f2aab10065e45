use Rattle.std.proofs.Common.{◌≡◌, Some, map, take}
use Rattle.jwt_base.specs.Algorithm.{algorithm_named}
use Rattle.jwt_requests.proofs.request.algorithms_named.Given as goal

-- the algorithms of the names so far
abbrev pub invariant-loop-name : goal.invariant-loop-name
invariant-loop-name l = map algorithm_named (map (λ s. s.now) (take l.name-index l.names)) ≡ map Some l.algorithms.items
