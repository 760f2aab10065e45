use Rattle.std.proofs.Common.{◌∙◌, sym}
use Rattle.jwt_crypto.proofs.PreparedKeys.{none_without_hash}
use Rattle.jwt_crypto.proofs.prepared.PreparedHmac.is_prepared.Goals as goal

pub returns-in-None : goal.returns-in-None
returns-in-None c = (
  λ no. cc,
  λ p. absurd (none_without_hash c.args.self.now c.args.algorithm c.args.secret.now (sym c.hash_of_algorithm.ensures
      ∙ c.in-None.is) p),
)
