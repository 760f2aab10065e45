use Rattle.ed25519.specs.Ed25519.{p, d}
use Rattle.edwards.proofs.Groups.{group}
use Rattle.ed25519.proofs.Curve.{prime, field, curve}
use Rattle.ed25519.proofs.Orders.{base_is}
use Rattle.ed25519.proofs.group.group_law.Goals as goal

pub returns-clause-prime : goal.returns-clause-prime
returns-clause-prime c = prime

pub returns-clause-curve : goal.returns-clause-curve
returns-clause-curve c = curve

pub returns-clause-group : goal.returns-clause-group
returns-clause-group c = group p d field curve

pub returns-clause-base : goal.returns-clause-base
returns-clause-base c = base_is
