use Rattle.std.proofs.Common.{◌≡◌, length, ap, ◌∙◌, rules}
use Rattle.modular.specs.Octets.{os2ip, i2osp}
use Rattle.jwt_rsa.specs.Rsa.{octet_count, rsavp1}
use Rattle.jwt_rsa.proofs.Lowest.{length-i2osp}
use Rattle.jwt_rsa.proofs.key.PublicKey.open.Goals as goal

pub returns-clause-some : goal.returns-clause-some
returns-clause-some c =
    let k = c.args.self.now in
    let items : c.in_ok-to_octets.field-0.items ≡ i2osp (rsavp1 k.modulus k.exponent (os2ip c.args.signature.now))
    (octet_count k.bits) = search rules in
    (search rules, items, ap length items ∙ length-i2osp _ _)
