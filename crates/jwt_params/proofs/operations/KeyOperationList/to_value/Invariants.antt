use Rattle.std.proofs.Common.{◌≡◌, map, take}
use Rattle.serde_json.specs.Data.{string}
use Rattle.serde_json.specs.View.{view}
use Rattle.jwt_params.specs.Operation.{operation_text}
use Rattle.jwt_params.proofs.operations.KeyOperationList.to_value.Given as goal

abbrev pub invariant-loop-operation : goal.invariant-loop-operation
invariant-loop-operation l = map view l.items.items ≡ map string (map operation_text (take l.operation-index l.operation-items))
