use Rattle.std.proofs.Common.{◌≡◌, map, drop}
use Rattle.jwt_c_calls.specs.Status.{text_in}
use Rattle.jwt_c_calls.proofs.status_table.text_in.Given as goal

abbrev pub invariant-loop-status : goal.invariant-loop-status
invariant-loop-status l = text_in l.number (map (λ s. (s.0, s.1.now)) l.table)
    ≡ text_in l.number (map (λ s. (s.0, s.1.now)) (drop l.status-index l.table))
