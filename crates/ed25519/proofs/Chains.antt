-- Exponents of chains.
use Rattle.std.proofs.Common.{◌≡◌, ◌-◌, ◌/◌, ◌^◌, refl}
use Rattle.ed25519.specs.Ed25519.{p}

pub exponent_is : (p - 5) / 8 ≡ 2 ^ 252 - 3
unfolding p
exponent_is = refl
