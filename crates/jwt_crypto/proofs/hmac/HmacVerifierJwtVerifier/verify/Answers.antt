use Rattle.jwt_crypto.proofs.OwnCodes.{own_signature}
use Rattle.jwt_crypto.proofs.hmac.HmacVerifierJwtVerifier.verify.Goals as goal

pub returns-clause-own_signatures : goal.returns-clause-own_signatures
returns-clause-own_signatures c key are signs =
    let b = c.args.self.now.blocks in
    c.verify.ensures.1 (own_signature b.hash b.inner b.outer key.bytes c.args.message.now c.args.signature.now are signs)
