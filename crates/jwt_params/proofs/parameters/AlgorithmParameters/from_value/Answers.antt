use Rattle.std.proofs.lemmas.Result.{IfOk-weaker}
use Rattle.serde_json.specs.View.{view}
use Rattle.jwt_params.proofs.ParametersLemmas.{parameters_stay}
use Rattle.jwt_params.proofs.parameters.AlgorithmParameters.from_value.Goals as goal

pub returns-clause-normal : goal.returns-clause-normal
returns-clause-normal c = IfOk-weaker c.read.result _ _ (λ a r. parameters_stay (view c.args.value.now) a r) c.read.ensures.ok
