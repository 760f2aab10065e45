use Rattle.std.proofs.Common.{◌≡◌, ◌↔◌, ℕ, ◌^◌, ◌<◌, length, sym, ap, subst, ◌∙◌, arith}
use Rattle.std.specs.Prelude.{IsTrue}
use Rattle.modular.specs.Octets.{os2ip, i2osp}
use Rattle.jwt_rsa.specs.Rsa.{octet_count, rsavp1}
use Rattle.jwt_rsa.specs.Pss.{IsConsistent}
use Rattle.jwt_rsa.proofs.Lowest.{power_fits, pss_decides}
use Rattle.jwt_rsa.proofs.key.PublicKey.accepts_pss.Goals as goal

pub returns-clause-verdict : goal.returns-clause-verdict
returns-clause-verdict c =
    let k = c.args.self.now in
    let m = c.args.message.now in
    let s = c.args.signature.now in
    let em = c.in-Some-lowest_octets.em.now in
    let x : ℕ = rsavp1 k.modulus k.exponent (os2ip s) in
    let opened = rw c.in-Some.is at c.in_ok-octets.ensures.some in
    let many : length c.deref.result.now ≡ octet_count k.bits = ap length c.deref.ensures.value ∙ opened.2 in
    let octets : c.deref.result.now ≡ i2osp x (length c.deref.result.now) =
    c.deref.ensures.value ∙ opened.1 ∙ ap (λ z. i2osp x z) (sym many) in
    let fits : x < 256 ^ length c.deref.result.now =
    rw many (power_fits k.modulus k.exponent k.bits (os2ip s) (omega (arith, opened.0.in_range)) k.below) in
    let lowest = c.in-Some-lowest_octets.ensures.some x octets fits in
    let P : ℕ → Type 0 = λ z. IsTrue c.in_ok-yes.yes ↔ IsConsistent c.args.hash z m em in
    let verdict = subst P c.front_bits.ensures.exact c.in_ok-yes.ensures.verdict in
    let decides = pss_decides c.args.hash k.modulus k.exponent k.bits m s em opened.0 lowest.0 lowest.1 in
    (λ yes. decides.0 (verdict.0 yes), λ p. verdict.1 (decides.1 p))
