use Rattle.std.proofs.Common.{◌≡◌, ◌∙◌, ap, map, take}
use Rattle.std.proofs.lemmas.List.{take_all}
use Rattle.serde_json.proofs.Views.{view-Array}
use Rattle.serde_json.specs.Data.{array, string}
use Rattle.serde_json.specs.View.{items_of}
use Rattle.jwt_params.specs.Operation.{operation_text, operations_from}
use Rattle.jwt_params.proofs.CommonLemmas.{operations_read_back}
use Rattle.jwt_params.proofs.operations.KeyOperationList.to_value.Goals as goal

pub returns-clause-reads_back : goal.returns-clause-reads_back
returns-clause-reads_back c =
    let all : take c.loop-operation.operation-index c.as_slice-operation-items.result.now ≡ c.args.self.now =
    take_all _ _ c.loop-operation-test.false ∙ c.as_slice-operation-items.ensures in
    let texts = c.loop-operation.invariant ∙ ap (λ os. map string (map operation_text os)) all in
    ap operations_from (view-Array c.loop-operation.items ∙ ap (λ ds. array (items_of ds)) texts)
    ∙ operations_read_back c.args.self.now
