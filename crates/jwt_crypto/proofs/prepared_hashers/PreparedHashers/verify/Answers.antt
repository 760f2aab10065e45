use Rattle.jwt_crypto.proofs.PreparedSecrets.{right_answer}
use Rattle.jwt_crypto.proofs.prepared_hashers.PreparedHashers.verify.Goals as goal

pub returns : goal.returns
returns c = right_answer c.args.self.now.hashers c.args.message.now c.args.signature.now c.verify.result
    c.args.self.now.of_a_secret c.verify.ensures
