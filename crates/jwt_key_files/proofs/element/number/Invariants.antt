use Rattle.std.proofs.Common.{◌≡◌, drop}
use Rattle.jwt_key_files.specs.private_clauses.Numbers.{number_from}
use Rattle.jwt_key_files.proofs.element.number.Given as goal

abbrev pub invariant-loop-octet : goal.invariant-loop-octet
invariant-loop-octet l = number_from l.n (drop l.octet-index l.octets) ≡ number_from 0 l.octets
