use Rattle.std.proofs.Common.{◌≡◌}
use Rattle.jwt_keys.specs.Key.{ModulusExponent, key_content}
use Rattle.jwt_rsa.proofs.PreparedKeys.{prepared_as}
use Rattle.jwt_rsa.proofs.prepared_provider.RefPreparedRsaCryptoProvider.verifier_factory.Goals as goal

pub returns-clause-kept : goal.returns-clause-kept
returns-clause-kept c =
    let n = c.in-RsaModulusExponent.n.items in
    let e = c.in-RsaModulusExponent.e.items in
    let content : ModulusExponent n e ≡ key_content c.args.key.now = rw c.in-RsaModulusExponent.is at c.kind.ensures in
    rw (prepared_as c.args.self.now.now c.args.key.now n e content, ← c.deref.ensures.value, ← c.deref-2.ensures.value)
    c.in_ok-keyed.ensures.kept
