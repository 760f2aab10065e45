-- The base points lie on their curves.
use Rattle.std.proofs.Common.{refl}
use Rattle.residues.specs.Modulo.{plus, minus, times}
use Rattle.weierstrass.specs.Group.{cubic_at, spot}
use Rattle.ecdsa.specs.private_clauses.Sums.{HasBase}
use Rattle.weierstrass.proofs.PointLemmas.{alike_self}
use Rattle.weierstrass.proofs.Curves.{curve-256, curve-384}
use Rattle.algebra.proofs.CurvePrimes.{prime_p256, prime_p384}
use Rattle.ecdsa.specs.Curves.{p256, b256, base256, p384, b384, base384}

pub has_base_256 : HasBase p256 b256 base256
unfolding p256 b256 base256 cubic_at plus minus times
has_base_256 = record {
  prime = prime_p256;
  curve = curve-256;
  point = record { shape = spot base256.x base256.y; on = refl; alike = alike_self p256 base256 };
}

pub has_base_384 : HasBase p384 b384 base384
unfolding p384 b384 base384 cubic_at plus minus times
has_base_384 = record {
  prime = prime_p384;
  curve = curve-384;
  point = record { shape = spot base384.x base384.y; on = refl; alike = alike_self p384 base384 };
}
