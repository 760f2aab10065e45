use Rattle.algebra.proofs.CurvePrimes.{prime_n384}
use Rattle.weierstrass.proofs.Groups.{group}
use Rattle.weierstrass.proofs.Orders.{nothing-384, order-384}
use Rattle.ecdsa.specs.Curves.{p384, n384, b384, base384}
use Rattle.ecdsa.proofs.BasePoints.{has_base_384}
use Rattle.ecdsa.proofs.group.group_law_384.Goals as goal

pub returns-clause-prime : goal.returns-clause-prime
returns-clause-prime c = has_base_384.prime

pub returns-clause-order_prime : goal.returns-clause-order_prime
unfolding n384
returns-clause-order_prime c = prime_n384

pub returns-clause-curve : goal.returns-clause-curve
returns-clause-curve c = has_base_384.curve

pub returns-clause-group : goal.returns-clause-group
returns-clause-group c = group p384 b384 has_base_384.curve

pub returns-clause-base : goal.returns-clause-base
returns-clause-base c = has_base_384.point

pub returns-clause-order : goal.returns-clause-order
unfolding p384 n384 b384 base384
returns-clause-order c = record { nothing = nothing-384; least = order-384 }
