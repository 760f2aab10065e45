use Rattle.std.proofs.Common.{◌≡◌, map, drop}
use Rattle.jwt_base.specs.Members.{is_named}
use Rattle.jwt_base.proofs.json.members.is_one_of.Given as goal

abbrev pub invariant-loop-other : goal.invariant-loop-other
invariant-loop-other l = is_named (map (λ s. s.now) l.names) l.name
    ≡ is_named (map (λ s. s.now) (drop l.other-index l.names)) l.name
