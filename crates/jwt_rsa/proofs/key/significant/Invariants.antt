use Rattle.std.proofs.Common.{◌≡◌, ◌-◌, ◌≤◌, length, drop}
use Rattle.modular.specs.Octets.{os2ip}
use Rattle.jwt_rsa.specs.Rsa.{bit_count}
use Rattle.jwt_rsa.proofs.key.significant.Given as goal

abbrev pub invariant-loop-start : goal.invariant-loop-start
invariant-loop-start l = record {
  within : l.start ≤ length l.octets;
  number : os2ip (drop l.start l.octets) ≡ os2ip l.octets;
  bits : bit_count (drop l.start l.octets) ≡ bit_count l.octets;
}

abbrev pub decreases-loop-start : goal.decreases-loop-start
decreases-loop-start l = length l.octets - l.start
