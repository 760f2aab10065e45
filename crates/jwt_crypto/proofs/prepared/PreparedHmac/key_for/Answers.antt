use Rattle.jwt_crypto.proofs.PreparedKeys.{kept_code}
use Rattle.jwt_crypto.proofs.prepared.PreparedHmac.key_for.Goals as goal

pub returns-in-Some-clause-code : goal.returns-in-Some-clause-code
returns-in-Some-clause-code c m s = kept_code c.clone.result.hashers c.in-Some.key.now c.args.hash c.args.secret.now m s
    c.clone.ensures c.in-Some.ensures.some
