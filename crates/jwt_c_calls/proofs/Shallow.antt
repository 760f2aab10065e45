-- JSON that was read nests no deeper than the reader allows.
use Rattle.std.proofs.Common.{◌≤◌, ℕ, List}
use Rattle.serde_json.proofs.Nesting.{depth-read}
use Rattle.serde_json.specs.Data.{Data, depth}
use Rattle.serde_json.specs.Read.{max_depth}
use Rattle.jwt_base.specs.JsonText.{IsJson}

pub shallow : (bytes : List ℕ) (value : Data) → IsJson bytes value → depth value ≤ max_depth
shallow bytes value j = depth-read bytes value j.1
