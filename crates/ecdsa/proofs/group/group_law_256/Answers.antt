use Rattle.algebra.proofs.CurvePrimes.{prime_n256}
use Rattle.weierstrass.proofs.Groups.{group}
use Rattle.weierstrass.proofs.Orders.{nothing-256, order-256}
use Rattle.ecdsa.specs.Curves.{p256, n256, b256, base256}
use Rattle.ecdsa.proofs.BasePoints.{has_base_256}
use Rattle.ecdsa.proofs.group.group_law_256.Goals as goal

pub returns-clause-prime : goal.returns-clause-prime
returns-clause-prime c = has_base_256.prime

pub returns-clause-order_prime : goal.returns-clause-order_prime
unfolding n256
returns-clause-order_prime c = prime_n256

pub returns-clause-curve : goal.returns-clause-curve
returns-clause-curve c = has_base_256.curve

pub returns-clause-group : goal.returns-clause-group
returns-clause-group c = group p256 b256 has_base_256.curve

pub returns-clause-base : goal.returns-clause-base
returns-clause-base c = has_base_256.point

pub returns-clause-order : goal.returns-clause-order
unfolding p256 n256 b256 base256
returns-clause-order c = record { nothing = nothing-256; least = order-256 }
