use Rattle.jwt_crypto.proofs.prepared_hashers.PreparedHashers.clone.Goals as goal

pub invariant_of-result : goal.invariant_of-result
invariant_of-result c = record { of_a_secret = rw c.clone.ensures c.args.self.now.of_a_secret }
