use Rattle.std.proofs.lemmas.Result.{IfOk-weaker}
use Rattle.serde_json.specs.View.{view}
use Rattle.jwt_keys.proofs.SetLemmas.{read_is_normal_set}
use Rattle.jwt_keys.proofs.jwk_set.JwkSet.from_value.Goals as goal

pub returns-clause-normal : goal.returns-clause-normal
returns-clause-normal c = IfOk-weaker c.read.result _ _
    (λ s r. read_is_normal_set (view c.args.value.now) s.keys.items r) c.read.ensures.ok
