use Rattle.std.proofs.Common.{◌≡◌, ◌++◌, flat_map, string_bytes, take}
use Rattle.jwt_findings.specs.Escapes.{unit_escape}
use Rattle.jwt_findings.proofs.escapes.push_escape.Given as goal

abbrev pub invariant-loop-unit : goal.invariant-loop-unit
invariant-loop-unit l = string_bytes l.text ≡ string_bytes l.initial.text ++ flat_map unit_escape (take l.unit-index l.unit-items)
