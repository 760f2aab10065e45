use Rattle.serde_json.proofs.Views.{view-Object}
use Rattle.jwt_params.proofs.ParametersLemmas.{parameters_read}
use Rattle.jwt_params.proofs.parameters.AlgorithmParameters.to_value.Goals as goal

pub returns-clause-reads_back : goal.returns-clause-reads_back
returns-clause-reads_back c =
    rw (view-Object c.in_ok-members.members) (parameters_read c.args.self.now _ c.in_ok-members.ensures.ok)
