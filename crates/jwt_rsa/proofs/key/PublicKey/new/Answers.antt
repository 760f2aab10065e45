use Rattle.std.proofs.Common.{ℕ, ◌^◌, ◌<◌, get_or, rules, arith}
use Rattle.modular.specs.Octets.{os2ip}
use Rattle.jwt_rsa.specs.Rsa.{bit_count}
use Rattle.jwt_rsa.proofs.Bits.{above_one, has_bits}
use Rattle.jwt_rsa.proofs.KeyTests.{bits_counted}
use Rattle.jwt_rsa.proofs.key.PublicKey.new.Goals as goal

pub new-requires-clause-above_one : goal.new-requires-clause-above_one
new-requires-clause-above_one c =
    let octets : (k : ℕ) → get_or c.args.n.now k 0 < 256 = λ k. (let fits = c.type_inv.n k in omega (arith, fits)) in
    let counted = bits_counted (bit_count c.args.n.now) c.in-Some.bits c.in-Some.ensures in
    rw c.in_ok-number.ensures (above_one c.args.n.now octets (omega (arith, counted.1)))

pub invariant_of-result : goal.invariant_of-result
invariant_of-result c =
    let octets : (k : ℕ) → get_or c.args.n.now k 0 < 256 = λ k. (let fits = c.type_inv.n k in omega (arith, fits)) in
    let counted = bits_counted (bit_count c.args.n.now) c.in-Some.bits c.in-Some.ensures in
    let below : os2ip c.args.n.now < 2 ^ bit_count c.args.n.now = (has_bits c.args.n.now octets).below in
    record {
      positive = search rules;
      some_bits = omega (arith, counted.0, counted.1);
      few_bits = omega (arith, counted.0, counted.2);
      below = rw (c.in_ok-modulus.ensures, c.in_ok-number.ensures, counted.0) below;
    }
