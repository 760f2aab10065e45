use Rattle.std.proofs.lemmas.Result.{IfOk-weaker}
use Rattle.serde_json.specs.View.{view}
use Rattle.jwt_keys.proofs.JwkLemmas.{read_is_normal}
use Rattle.jwt_keys.proofs.jwk.Jwk.from_value.Goals as goal

pub returns-clause-normal : goal.returns-clause-normal
returns-clause-normal c = IfOk-weaker c.read.result _ _ (λ k r. read_is_normal (view c.args.value.now) k r) c.read.ensures.ok
