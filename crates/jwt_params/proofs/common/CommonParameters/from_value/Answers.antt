use Rattle.std.proofs.lemmas.Result.{IfOk-weaker}
use Rattle.serde_json.specs.View.{view}
use Rattle.jwt_params.proofs.CommonLemmas.{common_is_normal}
use Rattle.jwt_params.proofs.common.CommonParameters.from_value.Goals as goal

pub returns-clause-normal : goal.returns-clause-normal
returns-clause-normal c = IfOk-weaker c.read.result _ _ (λ p r. common_is_normal (view c.args.value.now) p r) c.read.ensures.ok
